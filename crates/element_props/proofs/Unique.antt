-- All the records of a text are its `records`.
use Rattle.std.proofs.Common.{◌≡◌, ◌<◌, ◌≤◌, ℕ, zero, suc, List, [], ◌∷◌, ◌++◌, ◌==◌, length, cond, true, false, Bool, Option, Some, None, refl, ap, subst, arith}
use Rattle.csv.specs.Machine.{Read, step, in_field, start_field, start_record, after_end, ends_with, is_end, ends_at_end, next_record, fields_after, field_after}
use Rattle.csv.specs.Reading.{default_config, records_from, Reached, AreRecords}
use Rattle.csv.specs.declared.parser.State.{State}
use Rattle.csv.specs.declared.parser.Action.{Action}
use Rattle.csv.specs.declared.parser.State.TheVariants as st
use Rattle.csv.specs.declared.parser.Action.TheVariants as act
use Rattle.csv.specs.declared.parser.Terminator.TheVariants as term

-- an ended record leaves a state at which a text may end with no more records
abbrev EndsBetween : State × Action → Type 0
EndsBetween p = is_end p.1 ≡ true → ends_at_end p.0 ≡ false

either : (b : Bool) (p q : State × Action) → EndsBetween p → EndsBetween q → EndsBetween (cond b p q)
either true p q x y = x
either false p q x y = y

plain_after : (b : Bool) → ends_at_end (cond b st.AfterCr st.StartRecord) ≡ false
plain_after true = refl
plain_after false = refl

field_ends : (c : ℕ) → EndsBetween (in_field default_config c)
field_ends c =
    either (c == 44) (st.StartField, act.EndField) _ (λ e. cc)
    (either (ends_with term.CRLF c) (after_end term.CRLF c, act.EndRecord) (st.InField, act.Copy) (λ _. plain_after (c == 13)) (λ e. cc))

start_field_ends : (c : ℕ) → EndsBetween (start_field default_config c)
start_field_ends c = either (c == 34) (st.InQuoted, act.Skip) _ (λ e. cc) (field_ends c)

start_record_ends : (c : ℕ) → EndsBetween (start_record default_config c)
start_record_ends c = either (ends_with term.CRLF c) (st.StartRecord, act.Skip) _ (λ e. cc) (start_field_ends c)

ends_between : (s : State) (c : ℕ) → EndsBetween (step default_config s c)
ends_between st.StartRecord c = start_record_ends c
ends_between st.StartField c = start_field_ends c
ends_between st.InField c = field_ends c
ends_between st.InQuoted c = either (c == 34) (st.AfterQuote, act.Skip) (st.InQuoted, act.Copy) (λ e. cc) (λ e. cc)
ends_between st.InEscape c = λ e. cc
ends_between st.AfterQuote c = either (c == 34) (st.InQuoted, act.Copy) _ (λ e. cc) (field_ends c)
ends_between st.InComment c = either (c == 10) (st.StartRecord, act.Skip) (st.InComment, act.Skip) (λ e. cc) (λ e. cc)
ends_between st.AfterCr c = either (c == 10) (st.StartRecord, act.Skip) _ (λ e. cc) (start_record_ends c)

-- what a read leaves
pub record Leaves (xs : List ℕ) (p : Read) : Type 0 where
  pub state : ends_at_end p.1 ≡ false
  pub bytes : length p.2 ≤ length xs

at_end : (b : Bool) (xs : List ℕ) (fields : List (List ℕ)) (p : Read) → cond b (Some (fields, st.StartRecord, [])) None ≡ Some p → Leaves xs p
at_end true xs fields p e = let same : p ≡ (fields, st.StartRecord, []) = cc in record { state = rw same refl; bytes = rw same (omega arith) }
at_end false xs fields p e = cc

at_byte : (b : Bool) (rest : List ℕ) (q p : Read) (later : Option Read) → cond b (Some q) later ≡ Some p
    → (b ≡ true → Leaves rest q) → (later ≡ Some p → Leaves rest p) → Leaves rest p
at_byte true rest q p later e now next = let same : q ≡ p = cc in subst (Leaves rest) same (now refl)
at_byte false rest q p later e now next = next e

takes_bytes : (s : State) (fields : List (List ℕ)) (field xs : List ℕ) (p : Read) → next_record default_config s fields field xs ≡ Some p → Leaves xs p
unfolding next_record
takes_bytes s fields field [] p e = at_end (ends_at_end s) [] (fields ++ (field ∷ [])) p e
takes_bytes s fields field (c ∷ rest) p e =
    let went = step default_config s c in
    let left = at_byte (is_end went.1) rest (fields_after went.1 fields field, went.0, rest) p _ e
    (λ ended. record { state = ends_between s c ended; bytes = omega arith })
    (λ later. takes_bytes went.0 (fields_after went.1 fields field) (field_after went.1 c field) rest p later) in
    record { state = left.state; bytes = omega (arith, left.bytes) }

-- a read between records takes a byte
takes_one : (s : State) (xs : List ℕ) (p : Read) → ends_at_end s ≡ false → next_record default_config s [] [] xs ≡ Some p → length p.2 < length xs
unfolding next_record
takes_one s [] p plain e = let no : None ≡ Some p = rw plain at e in absurd cc
takes_one s (c ∷ rest) p plain e =
    let went = step default_config s c in
    let left = at_byte (is_end went.1) rest (fields_after went.1 [] [], went.0, rest) p _ e
    (λ ended. record { state = ends_between s c ended; bytes = omega arith })
    (λ later. takes_bytes went.0 (fields_after went.1 [] []) (field_after went.1 c []) rest p later) in
    omega (arith, left.bytes)

pub records_are : (n : ℕ) (s : State) (xs : List ℕ) (rows : List (List (List ℕ))) → ends_at_end s ≡ false → length xs < n
    → AreRecords default_config s xs rows → rows ≡ records_from default_config n s xs
unfolding records_from Reached
records_are zero s xs rows plain enough all = absurd (omega arith)
records_are (suc n) s xs [] plain enough (s2, ys, (same_state, same_bytes), none) = rw (same_state, same_bytes, none) refl
records_are (suc n) s xs (row ∷ rows) plain enough (s2, ys, (p, read, is, later), none) =
    let left = takes_bytes s [] [] xs p read in
    let shorter = takes_one s xs p plain read in
    rw (read, is) (ap (λ t. p.0 ∷ t) (records_are n p.1 p.2 rows left.state (omega arith) (s2, ys, later, none)))
