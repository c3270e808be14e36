-- How changes of variables follow one another.
use Rattle.std.proofs.Common.{◌≡◌, ℕ, List, [], ◌∷◌, ◌++◌, true, false, Some, None, refl, sym, ap, ◌∙◌, append_assoc}
use Rattle.std.specs.Prelude.{Result, Ok, Err}
use Rattle.std.proofs.lemmas.List.{append-nil}
use Rattle.std.proofs.lemmas.Bool.{false≢true}
use Rattle.thread_vars.specs.declared.error.VarError.{VarError}
use Rattle.thread_vars.specs.declared.error.VarError.TheVariants.{ValueLimit, NoMemory}
use Rattle.thread_vars.specs.Vars.{Variables, put_var, without_var, Puts}
use Rattle.var_changes.specs.Changes.{Change, Removes, Sets, Changed, go_on, changed, Changes}

abbrev pub all_made : Variables → Changed
all_made vars = record { vars = vars; whole = true }

abbrev pub cut_short : Variables → Changed
cut_short vars = record { vars = vars; whole = false }

-- changes that were all made, and then more
changed-then : (xs ys : List Change) (old mid : Variables) → changed xs old ≡ all_made mid → changed (xs ++ ys) old ≡ changed ys mid
changed-then [] ys old mid is = ap (λ c. changed ys c.vars) is
changed-then (Removes name ∷ xs) ys old mid is = changed-then xs ys (without_var name old) mid is
changed-then (Sets name value ∷ xs) ys old mid is =
    (elim (put_var name value old) as (λ o. go_on (changed xs) old o ≡ all_made mid → go_on (changed (xs ++ ys)) old o ≡ changed ys mid) [
      | None ↦ λ h. absurd (false≢true (ap (λ (c : Changed). c.whole) h))
      | Some vars ↦ λ h. changed-then xs ys vars mid h
    ]) is

-- after the first that would pass a limit there are none
changed-cut : (xs ys : List Change) (old mid : Variables) → changed xs old ≡ cut_short mid → changed (xs ++ ys) old ≡ cut_short mid
changed-cut [] ys old mid is = absurd (false≢true (sym (ap (λ (c : Changed). c.whole) is)))
changed-cut (Removes name ∷ xs) ys old mid is = changed-cut xs ys (without_var name old) mid is
changed-cut (Sets name value ∷ xs) ys old mid is =
    (elim (put_var name value old) as (λ o. go_on (changed xs) old o ≡ cut_short mid → go_on (changed (xs ++ ys)) old o ≡ cut_short mid) [
      | None ↦ λ h. h
      | Some vars ↦ λ h. changed-cut xs ys vars mid h
    ]) is

-- a variable that was to be set
pub puts-changes : (name value : List ℕ) (old new : Variables) (res : Result (Unit {0}) VarError) → Puts (put_var name value old) old new res → Changes (Sets name value ∷ []) old new res
puts-changes name value old new (Ok u) is = ap (go_on (changed []) old) is
puts-changes name value old new (Err ValueLimit) is = ap (go_on (changed []) old) is.0 ∙ ap cut_short (sym is.1)
puts-changes name value old new (Err NoMemory) is = record { made = []; rest = Sets name value ∷ []; split = refl; vars = ap all_made (sym is) }

-- ---- on the way

-- a prefix of all changes was made, and the rest is still to be made
pub record Standing (all : List Change) (old : Variables) (rest : List Change) (now : Variables) : Type 0 where
  pub made : List Change
  pub split : made ++ rest ≡ all
  pub so_far : changed made old ≡ all_made now

pub standing-first : (all : List Change) (old : Variables) → Standing all old all old
standing-first all old = record { made = []; split = refl; so_far = refl }

-- some of the rest is made
pub standing-more : (all xs ys : List Change) (old mid new : Variables) → Standing all old (xs ++ ys) mid → changed xs mid ≡ all_made new → Standing all old ys new
standing-more all xs ys old mid new s is = record {
  made = s.made ++ xs;
  split = append_assoc s.made xs ys ∙ s.split;
  so_far = changed-then s.made xs old mid s.so_far ∙ is;
}

-- a call that made some of the rest was refused
pub standing-stopped : (all xs ys : List Change) (old mid new : Variables) (error : VarError) → Standing all old (xs ++ ys) mid → Changes xs mid new (Err error) → Changes all old new (Err error)
standing-stopped all xs ys old mid new ValueLimit s is =
    ap (λ l. changed l old) (sym s.split) ∙ (changed-then s.made (xs ++ ys) old mid s.so_far ∙ changed-cut xs ys mid new is)
standing-stopped all xs ys old mid new NoMemory s is = record {
  made = s.made ++ is.made;
  rest = is.rest ++ ys;
  split = append_assoc s.made is.made (is.rest ++ ys) ∙ ap (λ l. s.made ++ l) (sym (append_assoc is.made is.rest ys) ∙ ap (λ l. l ++ ys) is.split) ∙ s.split;
  vars = changed-then s.made is.made old mid s.so_far ∙ is.vars;
}

-- a variable is removed
pub standing-removed : (all more : List Change) (old mid new : Variables) (name : List ℕ) → Standing all old (Removes name ∷ more) mid → new ≡ without_var name mid → Standing all old more new
standing-removed all more old mid new name s is = standing-more all (Removes name ∷ []) more old mid new s (ap all_made (sym is))

-- a variable is set
pub standing-put : (all more : List Change) (old mid new : Variables) (name value : List ℕ) → Standing all old (Sets name value ∷ more) mid → put_var name value mid ≡ Some new → Standing all old more new
standing-put all more old mid new name value s is = standing-more all (Sets name value ∷ []) more old mid new s (ap (go_on (changed []) mid) is)

-- a variable that was to be set was refused
pub standing-unput : (all more : List Change) (old mid new : Variables) (name value : List ℕ) (error : VarError) → Standing all old (Sets name value ∷ more) mid → Puts (put_var name value mid) mid new (Err error)
    → Changes all old new (Err error)
standing-unput all more old mid new name value error s is =
    standing-stopped all (Sets name value ∷ []) more old mid new error s (puts-changes name value mid new (Err error) is)

-- the last call
pub standing-last : (all rest : List Change) (old mid new : Variables) (res : Result (Unit {0}) VarError) → Standing all old rest mid → Changes rest mid new res → Changes all old new res
standing-last all rest old mid new (Ok u) s is = ap (λ l. changed l old) (sym s.split) ∙ (changed-then s.made rest old mid s.so_far ∙ is)
standing-last all rest old mid new (Err ValueLimit) s is = ap (λ l. changed l old) (sym s.split) ∙ (changed-then s.made rest old mid s.so_far ∙ is)
standing-last all rest old mid new (Err NoMemory) s is = record {
  made = s.made ++ is.made;
  rest = is.rest;
  split = append_assoc s.made is.made is.rest ∙ ap (λ l. s.made ++ l) is.split ∙ s.split;
  vars = changed-then s.made is.made old mid s.so_far ∙ is.vars;
}

-- the last variable
pub standing-last-put : (all : List Change) (old mid new : Variables) (name value : List ℕ) (res : Result (Unit {0}) VarError) → Standing all old (Sets name value ∷ []) mid → Puts (put_var name value mid) mid new res
    → Changes all old new res
standing-last-put all old mid new name value res s is = standing-last all (Sets name value ∷ []) old mid new res s (puts-changes name value mid new res is)

-- out of memory on the way
pub standing-memory : (all rest : List Change) (old now : Variables) → Standing all old rest now → Changes all old now (Err NoMemory)
standing-memory all rest old now s = record { made = s.made; rest = rest; split = s.split; vars = s.so_far }

-- nothing is left
pub standing-over : (all : List Change) (old now : Variables) → Standing all old [] now → changed all old ≡ all_made now
standing-over all old now s = ap (λ l. changed l old) (sym s.split ∙ append-nil s.made) ∙ s.so_far
