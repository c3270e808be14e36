-- The tokens that are read are those of the grammar, and a fault is at the first place that can't stand.
use Rattle.std.specs.Prelude.{IfOk}
use Rattle.schedule_text.specs.declared.schedule.ScheduleError.{ScheduleError}
use Rattle.schedule_text.specs.declared.schedule.ScheduleError.TheVariants.{BadSchedule}
use Rattle.std.proofs.Common.{◌≡◌, ◌⊎◌, inl, inr, ℕ, zero, suc, ◌+◌, ◌-◌, ◌*◌, ◌<◌, Bool, true, false, List, [], ◌∷◌, ◌++◌, length, Option, Some, None, Result, Ok, Err, refl, sym, ap, ◌∙◌, subst, arith, append_assoc}
use Rattle.std.proofs.lemmas.List.{append-nil}
use Rattle.schedule_text.specs.declared.token.Token.{Token}
use Rattle.schedule_text.specs.declared.token.Token.TheVariants.{Turn, Turns, Reporter, Reporters}
use Rattle.schedule_text.specs.declared.parse.Mark.{Mark}
use Rattle.schedule_text.specs.declared.parse.Mark.TheVariants as mark
use Rattle.schedule_text.specs.declared.parse.Place.{Place}
use Rattle.schedule_text.specs.declared.parse.Place.TheVariants.{Start, Comma, Digit, Digits, Whole}
use Rattle.schedule_text.specs.Grammar.{Names, one_digit, two_digits, Spells, turn, turns, reporter, reporters, AreTokens, last, before_comma, IsSchedule, none, some, Begins, StopsAt, IsFaultOf}
use Rattle.schedule_text.specs.Reading.{mark_of, first, after_digit, after_digits, after_whole, after, tokens_at, ended_at, given_at, after_given, go_on, run, reading_of, Gives}

-- Bytes

digit_mark : (d : ℕ) → d < 10 → mark_of (48 + d) ≡ mark.Digit d
digit_mark d low = grind arith

-- which byte says what
abbrev Says : ℕ → Mark → Type 0
Says b (mark.Digit d) = (b ≡ 48 + d) × (d < 10)
Says b mark.Comma = b ≡ 44
Says b mark.Times = b ≡ 120
Says b mark.One = b ≡ 114
Says b mark.Many = b ≡ 82
Says b mark.Other = Unit {0}

says : (b : ℕ) → Says b (mark_of b)
says b = grind arith

-- Results

abbrev fine : List Token → Result (List Token) ℕ
fine ts = Ok ts

abbrev bad : ℕ → Result (List Token) ℕ
bad at = Err at

ok-err : {A : Type 0} {ts : List Token} {at : ℕ} → fine ts ≡ bad at → A
ok-err h = absurd (cc)

same-tokens : {ts us : List Token} → fine ts ≡ fine us → ts ≡ us
same-tokens h = cc

given-nil : (r : Result (List Token) ℕ) → after_given [] r ≡ r
given-nil (Ok ts) = refl
given-nil (Err at) = refl

-- what stands after tokens that were given
given-ok : (given : List Token) (r : Result (List Token) ℕ) (ts : List Token) → after_given given r ≡ Ok ts → (us : List Token) × (r ≡ Ok us) × (ts ≡ given ++ us)
given-ok given (Ok us) ts h = (us, refl, cc)
given-ok given (Err at) ts h = absurd (cc)

given-err : (given : List Token) (r : Result (List Token) ℕ) (k : ℕ) → after_given given r ≡ Err k → r ≡ Err k
given-err given (Ok us) k h = absurd (cc)
given-err given (Err at) k h = h

some-place : {p q : Place} → Some p ≡ Some q → p ≡ q
some-place h = cc

-- a byte that can stand, and one that can't
run-on : (p q : Place) (at b : ℕ) (bs : List ℕ) (m : Mark) → mark_of b ≡ m → after p m ≡ Some q → run p at (b ∷ bs) ≡ after_given (given_at p m) (run q (at + 1) bs)
unfolding run
run-on p q at b bs m says next = rw (says, next) refl

run-off : (p : Place) (at b : ℕ) (bs : List ℕ) (m : Mark) → mark_of b ≡ m → after p m ≡ None → run p at (b ∷ bs) ≡ Err at
unfolding run
run-off p at b bs m says next = rw (says, next) refl

run-end : (p : Place) (at : ℕ) → ended_at p ≡ true → run p at [] ≡ Ok (tokens_at p)
unfolding run
run-end p at is = rw is refl

run-open : (p : Place) (at : ℕ) → ended_at p ≡ false → run p at [] ≡ Err at
unfolding run
run-open p at is = rw is refl

-- What is read is a schedule

-- the bytes after the last comma
abbrev SinceComma : Place → List ℕ → Type 0
SinceComma Start prefix = ⊥
SinceComma Comma prefix = prefix ≡ []
SinceComma (Digit d) prefix = (prefix ≡ (48 + d) ∷ []) × (d < 10)
SinceComma (Digits n) prefix = Names prefix n
SinceComma (Whole t) prefix = Spells prefix t

abbrev IsComma : Mark → Type 0
IsComma (mark.Digit d) = ⊥
IsComma mark.Comma = Unit {0}
IsComma mark.Times = ⊥
IsComma mark.One = ⊥
IsComma mark.Many = ⊥
IsComma mark.Other = ⊥

-- one more byte that is no comma
grows : (p q : Place) (m : Mark) (prefix : List ℕ) (b : ℕ) → SinceComma p prefix → Says b m → (IsComma m → ⊥) → after p m ≡ Some q → SinceComma q (prefix ++ b ∷ [])
grows Start q m prefix b h is other next = absurd h
grows Comma q (mark.Digit d) prefix b h is other next = subst (λ p. SinceComma p (prefix ++ b ∷ [])) (some-place next) (rw (h, is.0) (refl, is.1))
grows Comma q mark.Comma prefix b h is other next = absurd (other tt)
grows Comma q mark.Times prefix b h is other next = absurd (cc)
grows Comma q mark.One prefix b h is other next = subst (λ p. SinceComma p (prefix ++ b ∷ [])) (some-place next) (rw (h, is) reporter)
grows Comma q mark.Many prefix b h is other next = subst (λ p. SinceComma p (prefix ++ b ∷ [])) (some-place next) (rw (h, is) reporters)
grows Comma q mark.Other prefix b h is other next = absurd (cc)
grows (Digit t) q (mark.Digit d) prefix b h is other next = subst (λ p. SinceComma p (prefix ++ b ∷ [])) (some-place next) (rw (h.0, is.0) (two_digits t d h.1 is.1))
grows (Digit t) q mark.Comma prefix b h is other next = absurd (other tt)
grows (Digit t) q mark.Times prefix b h is other next = subst (λ p. SinceComma p (prefix ++ b ∷ [])) (some-place next) (rw (h.0, is) (turns ((48 + t) ∷ []) t (one_digit t h.1)))
grows (Digit t) q mark.One prefix b h is other next = absurd (cc)
grows (Digit t) q mark.Many prefix b h is other next = absurd (cc)
grows (Digit t) q mark.Other prefix b h is other next = absurd (cc)
grows (Digits n) q (mark.Digit d) prefix b h is other next = absurd (cc)
grows (Digits n) q mark.Comma prefix b h is other next = absurd (other tt)
grows (Digits n) q mark.Times prefix b h is other next = subst (λ p. SinceComma p (prefix ++ b ∷ [])) (some-place next) (rw is (turns prefix n h))
grows (Digits n) q mark.One prefix b h is other next = absurd (cc)
grows (Digits n) q mark.Many prefix b h is other next = absurd (cc)
grows (Digits n) q mark.Other prefix b h is other next = absurd (cc)
grows (Whole t) q (mark.Digit d) prefix b h is other next = absurd (cc)
grows (Whole t) q mark.Comma prefix b h is other next = absurd (other tt)
grows (Whole t) q mark.Times prefix b h is other next = absurd (cc)
grows (Whole t) q mark.One prefix b h is other next = absurd (cc)
grows (Whole t) q mark.Many prefix b h is other next = absurd (cc)
grows (Whole t) q mark.Other prefix b h is other next = absurd (cc)

-- the token that ends at a place
ends : (p : Place) (prefix : List ℕ) → SinceComma p prefix → ended_at p ≡ true → (t : Token) × (tokens_at p ≡ t ∷ []) × Spells prefix t
ends Start prefix h is = absurd h
ends Comma prefix h is = absurd (cc)
ends (Digit d) prefix h is = (Turn d, refl, rw h.0 (turn ((48 + d) ∷ []) d (one_digit d h.1)))
ends (Digits n) prefix h is = (Turn n, refl, turn prefix n h)
ends (Whole t) prefix h is = (t, refl, h)

comma_next : (p q : Place) → after p mark.Comma ≡ Some q → (q ≡ Comma) × (ended_at p ≡ true)
comma_next Start q h = absurd (cc)
comma_next Comma q h = absurd (cc)
comma_next (Digit d) q h = (sym (some-place h), refl)
comma_next (Digits n) q h = (sym (some-place h), refl)
comma_next (Whole t) q h = (sym (some-place h), refl)

sound_end : (p : Place) (at : ℕ) (prefix : List ℕ) (ts : List Token) (e : Bool) → ended_at p ≡ e → SinceComma p prefix → run p at [] ≡ Ok ts → AreTokens (prefix ++ []) ts
sound_end p at prefix ts true end h is =
    let (t, tokens, spells) = ends p prefix h end in
    let all : ts ≡ t ∷ [] = sym (same-tokens (sym (run-end p at end) ∙ is)) ∙ tokens in
    rw (append-nil prefix, all) (last prefix t spells)
sound_end p at prefix ts false end h is = ok-err (sym is ∙ run-open p at end)

no_token : (p : Place) (m : Mark) → (IsComma m → ⊥) → given_at p m ≡ []
no_token p (mark.Digit d) other = refl
no_token p mark.Comma other = absurd (other tt)
no_token p mark.Times other = refl
no_token p mark.One other = refl
no_token p mark.Many other = refl
no_token p mark.Other other = refl

module _ (bs : List ℕ) (again : (q : Place) (at : ℕ) (prefix : List ℕ) (ts : List Token) → SinceComma q prefix → run q at bs ≡ Ok ts → AreTokens (prefix ++ bs) ts)
    (p : Place) (at b : ℕ) (prefix : List ℕ) (ts : List Token) (h : SinceComma p prefix) (is : run p at (b ∷ bs) ≡ Ok ts) where
  at_comma : (q : Place) → mark_of b ≡ mark.Comma → after p mark.Comma ≡ Some q → AreTokens (prefix ++ b ∷ bs) ts
  at_comma q says_it next =
      let (q_is, end) = comma_next p q next in
      let (us, rest, all) = given-ok (tokens_at p) (run q (at + 1) bs) ts (sym (run-on p q at b bs mark.Comma says_it next) ∙ is) in
      let (t, tokens, spells) = ends p prefix h end in
      let more : AreTokens bs us = again q (at + 1) [] us (subst (λ p. SinceComma p []) (sym q_is) refl) rest in
      let byte : b ≡ 44 = subst (Says b) says_it (says b) in
      let both : ts ≡ t ∷ us = all ∙ ap (λ g. g ++ us) tokens in
      subst (λ k. AreTokens (prefix ++ k ∷ bs) ts) (sym byte) (subst (AreTokens (prefix ++ 44 ∷ bs)) (sym both) (before_comma prefix bs t us spells more))

  at_other : (m : Mark) (q : Place) → mark_of b ≡ m → (IsComma m → ⊥) → after p m ≡ Some q → AreTokens (prefix ++ b ∷ bs) ts
  at_other m q says_it other next =
      let (us, rest, all) = given-ok (given_at p m) (run q (at + 1) bs) ts (sym (run-on p q at b bs m says_it next) ∙ is) in
      let same : ts ≡ us = all ∙ ap (λ g. g ++ us) (no_token p m other) in
      let more : AreTokens ((prefix ++ b ∷ []) ++ bs) us = again q (at + 1) (prefix ++ b ∷ []) us (grows p q m prefix b h (subst (Says b) says_it (says b)) other next) rest in
      rw same (subst (λ l. AreTokens l us) (append_assoc prefix (b ∷ []) bs) more)

  by_mark : (m : Mark) (q : Place) → mark_of b ≡ m → after p m ≡ Some q → AreTokens (prefix ++ b ∷ bs) ts
  by_mark mark.Comma q says_it next = at_comma q says_it next
  by_mark (mark.Digit d) q says_it next = at_other (mark.Digit d) q says_it (λ c. c) next
  by_mark mark.Times q says_it next = at_other mark.Times q says_it (λ c. c) next
  by_mark mark.One q says_it next = at_other mark.One q says_it (λ c. c) next
  by_mark mark.Many q says_it next = at_other mark.Many q says_it (λ c. c) next
  by_mark mark.Other q says_it next = at_other mark.Other q says_it (λ c. c) next

  sound_more : (o : Option Place) → after p (mark_of b) ≡ o → AreTokens (prefix ++ b ∷ bs) ts
  sound_more None next = ok-err (sym is ∙ run-off p at b bs (mark_of b) refl next)
  sound_more (Some q) next = by_mark (mark_of b) q refl next

sound : (bs : List ℕ) (p : Place) (at : ℕ) (prefix : List ℕ) (ts : List Token) → SinceComma p prefix → run p at bs ≡ Ok ts → AreTokens (prefix ++ bs) ts
sound [] p at prefix ts h is = sound_end p at prefix ts (ended_at p) refl h is
sound (b ∷ bs) p at prefix ts h is = sound_more bs (λ q n f us g r. sound bs q n f us g r) p at b prefix ts h is (after p (mark_of b)) refl

-- A schedule is read

-- a token leads from the comma to a place at which it ends
record Leads (prefix : List ℕ) (t : Token) (at : ℕ) (bs : List ℕ) : Type 0 where
  q : Place
  n : ℕ
  ran : run Comma at (prefix ++ bs) ≡ run q n bs
  tokens : tokens_at q ≡ t ∷ []
  end : ended_at q ≡ true
  next : after q mark.Comma ≡ Some Comma

step : (p q : Place) (at b : ℕ) (bs : List ℕ) (m : Mark) → mark_of b ≡ m → after p m ≡ Some q → given_at p m ≡ [] → run p at (b ∷ bs) ≡ run q (at + 1) bs
step p q at b bs m says_it next quiet = run-on p q at b bs m says_it next ∙ ap (λ g. after_given g (run q (at + 1) bs)) quiet ∙ given-nil (run q (at + 1) bs)

leads : (prefix : List ℕ) (t : Token) → Spells prefix t → (at : ℕ) (bs : List ℕ) → Leads prefix t at bs
leads _ _ (turn _ _ (one_digit d low)) at bs = record {
  q = Digit d;
  n = at + 1;
  ran = step Comma (Digit d) at (48 + d) bs (mark.Digit d) (digit_mark d low) refl refl;
  tokens = refl;
  end = refl;
  next = refl;
}
leads _ _ (turn _ _ (two_digits t d high low)) at bs = record {
  q = Digits (10 * t + d);
  n = at + 1 + 1;
  ran = step Comma (Digit t) at (48 + t) ((48 + d) ∷ bs) (mark.Digit t) (digit_mark t high) refl refl
      ∙ step (Digit t) (Digits (10 * t + d)) (at + 1) (48 + d) bs (mark.Digit d) (digit_mark d low) refl refl;
  tokens = refl;
  end = refl;
  next = refl;
}
leads _ _ (turns _ _ (one_digit d low)) at bs = record {
  q = Whole (Turns d);
  n = at + 1 + 1;
  ran = step Comma (Digit d) at (48 + d) (120 ∷ bs) (mark.Digit d) (digit_mark d low) refl refl
      ∙ step (Digit d) (Whole (Turns d)) (at + 1) 120 bs mark.Times refl refl refl;
  tokens = refl;
  end = refl;
  next = refl;
}
leads _ _ (turns _ _ (two_digits t d high low)) at bs = record {
  q = Whole (Turns (10 * t + d));
  n = at + 1 + 1 + 1;
  ran = step Comma (Digit t) at (48 + t) ((48 + d) ∷ 120 ∷ bs) (mark.Digit t) (digit_mark t high) refl refl
      ∙ step (Digit t) (Digits (10 * t + d)) (at + 1) (48 + d) (120 ∷ bs) (mark.Digit d) (digit_mark d low) refl refl
      ∙ step (Digits (10 * t + d)) (Whole (Turns (10 * t + d))) (at + 1 + 1) 120 bs mark.Times refl refl refl;
  tokens = refl;
  end = refl;
  next = refl;
}
leads _ _ reporter at bs = record { q = Whole Reporter; n = at + 1; ran = step Comma (Whole Reporter) at 114 bs mark.One refl refl refl; tokens = refl; end = refl; next = refl }
leads _ _ reporters at bs = record { q = Whole Reporters; n = at + 1; ran = step Comma (Whole Reporters) at 82 bs mark.Many refl refl refl; tokens = refl; end = refl; next = refl }

reads : (text : List ℕ) (ts : List Token) → AreTokens text ts → (at : ℕ) → run Comma at text ≡ Ok ts
reads _ _ (last text t spells) at =
    let l = leads text t spells at [] in
    ap (run Comma at) (sym (append-nil text)) ∙ l.ran ∙ run-end l.q l.n l.end ∙ ap Ok l.tokens
reads _ _ (before_comma prefix text t ts spells more) at =
    let l = leads prefix t spells at (44 ∷ text) in
    l.ran ∙ run-on l.q Comma l.n 44 text mark.Comma refl l.next ∙ ap (λ g. after_given g (run Comma (l.n + 1) text)) l.tokens ∙ ap (after_given (t ∷ [])) (reads text ts more (l.n + 1))

-- A fault

-- what may follow
abbrev rest_at : Place → List ℕ
rest_at Comma = 114 ∷ []
rest_at Start = []
rest_at (Digit d) = []
rest_at (Digits n) = []
rest_at (Whole t) = []

may_follow : (p : Place) (at : ℕ) → (ts : List Token) × (run p at (rest_at p) ≡ Ok ts)
may_follow Comma at = (Reporter ∷ [], step Comma (Whole Reporter) at 114 [] mark.One refl refl refl ∙ run-end (Whole Reporter) (at + 1) refl)
may_follow Start at = ([], run-end Start at refl)
may_follow (Digit d) at = (Turn d ∷ [], run-end (Digit d) at refl)
may_follow (Digits n) at = (Turn n ∷ [], run-end (Digits n) at refl)
may_follow (Whole t) at = (t ∷ [], run-end (Whole t) at refl)

-- whatever comes after it, the byte at the fault can't stand
abbrev Off : Place → ℕ → List ℕ → List ℕ → ℕ → Type 0
Off p at before [] k = Unit {0}
Off p at before (b ∷ rest) k = (more : List ℕ) → run p at ((before ++ b ∷ []) ++ more) ≡ Err k

record Faults (p : Place) (at : ℕ) (bs : List ℕ) (k : ℕ) : Type 0 where
  before : List ℕ
  rest : List ℕ
  all : bs ≡ before ++ rest
  place : k ≡ at + length before
  more : List ℕ
  tokens : List Token
  stands : run p at (before ++ more) ≡ Ok tokens
  stops : Off p at before rest k

place_of : {at k : ℕ} → bad at ≡ bad k → k ≡ at
place_of h = cc

off_after : (p q : Place) (at b : ℕ) (before rest : List ℕ) (k : ℕ) (m : Mark) → mark_of b ≡ m → after p m ≡ Some q → Off q (at + 1) before rest k → Off p at (b ∷ before) rest k
off_after p q at b before [] k m says_it next off = tt
off_after p q at b before (c ∷ rest) k m says_it next off =
    λ more. run-on p q at b ((before ++ c ∷ []) ++ more) m says_it next ∙ ap (after_given (given_at p m)) (off more)

faults_end : (p : Place) (at k : ℕ) (e : Bool) → ended_at p ≡ e → run p at [] ≡ Err k → Faults p at [] k
faults_end p at k true end is = ok-err (sym (run-end p at end) ∙ is)
faults_end p at k false end is = record {
  before = [];
  rest = [];
  all = refl;
  place = (let same : k ≡ at = place_of (sym (run-open p at end) ∙ is) in omega (arith, same));
  more = rest_at p;
  tokens = (may_follow p at).0;
  stands = (may_follow p at).1;
  stops = tt;
}

faults_more : (bs : List ℕ) (p : Place) (at b k : ℕ) → ((q : Place) (n : ℕ) → run q n bs ≡ Err k → Faults q n bs k) → run p at (b ∷ bs) ≡ Err k
    → (o : Option Place) → after p (mark_of b) ≡ o → Faults p at (b ∷ bs) k
faults_more bs p at b k again is None next = record {
  before = [];
  rest = b ∷ bs;
  all = refl;
  place = (let same : k ≡ at = place_of (sym (run-off p at b bs (mark_of b) refl next) ∙ is) in omega (arith, same));
  more = rest_at p;
  tokens = (may_follow p at).0;
  stands = (may_follow p at).1;
  stops = λ more. run-off p at b more (mark_of b) refl next ∙ sym (run-off p at b bs (mark_of b) refl next) ∙ is;
}
faults_more bs p at b k again is (Some q) next =
    let later : run q (at + 1) bs ≡ Err k = given-err (given_at p (mark_of b)) (run q (at + 1) bs) k (sym (run-on p q at b bs (mark_of b) refl next) ∙ is) in
    let f = again q (at + 1) later in
    record {
      before = b ∷ f.before;
      rest = f.rest;
      all = ap (λ l. b ∷ l) f.all;
      place = (let far = f.place in omega (arith, far));
      more = f.more;
      tokens = given_at p (mark_of b) ++ f.tokens;
      stands = run-on p q at b (f.before ++ f.more) (mark_of b) refl next ∙ ap (after_given (given_at p (mark_of b))) f.stands;
      stops = off_after p q at b f.before f.rest k (mark_of b) refl next f.stops;
    }

faults : (bs : List ℕ) (p : Place) (at k : ℕ) → run p at bs ≡ Err k → Faults p at bs k
faults [] p at k is = faults_end p at k (ended_at p) refl is
faults (b ∷ bs) p at k is = faults_more bs p at b k (λ q n r. faults bs q n k r) is (after p (mark_of b)) refl

-- The whole text

-- at the start a token may come as after a comma
at_start : (at b : ℕ) (bs : List ℕ) → run Start at (b ∷ bs) ≡ run Comma at (b ∷ bs)
unfolding run
at_start at b bs = by_mark (mark_of b) where
  by_mark : (m : Mark) → after_given (given_at Start m) (go_on at (after Start m) (λ q. run q (at + 1) bs)) ≡ after_given (given_at Comma m) (go_on at (after Comma m) (λ q. run q (at + 1) bs))
  by_mark (mark.Digit d) = refl
  by_mark mark.Comma = refl
  by_mark mark.Times = refl
  by_mark mark.One = refl
  by_mark mark.Many = refl
  by_mark mark.Other = refl

pub reading_sound : (text : List ℕ) (ts : List Token) → reading_of text ≡ Ok ts → IsSchedule text ts
reading_sound [] ts is = subst (IsSchedule []) (same-tokens (sym (run-end Start 0 refl) ∙ is)) none
reading_sound (b ∷ bs) ts is = some (b ∷ bs) ts (sound (b ∷ bs) Comma 0 [] ts refl (sym (at_start 0 b bs) ∙ is))

no_tokens : {A : Type 0} (ts : List Token) → AreTokens [] ts → A
no_tokens ts h = ok-err (sym (reads [] ts h 0) ∙ run-open Comma 0 refl)

pub reading_complete : (text : List ℕ) (ts : List Token) → IsSchedule text ts → reading_of text ≡ Ok ts
reading_complete _ _ none = run-end Start 0 refl
reading_complete _ _ (some text ts h) = by_text text h where
  by_text : (l : List ℕ) → AreTokens l ts → reading_of l ≡ Ok ts
  by_text [] h = no_tokens ts h
  by_text (b ∷ bs) h = at_start 0 b bs ∙ reads (b ∷ bs) ts h 0

stops_there : (text before rest : List ℕ) (k : ℕ) → text ≡ before ++ rest → reading_of text ≡ Err k → Off Start 0 before rest k → StopsAt before rest
stops_there text before [] k all is off = λ ts h. ok-err (sym (reading_complete before ts h) ∙ ap reading_of (sym (all ∙ append-nil before)) ∙ is)
stops_there text before (b ∷ rest) k all is off = λ h. ok-err (sym (reading_complete ((before ++ b ∷ []) ++ h.0) h.1 h.2) ∙ off h.0)

pub reading_fault : (text : List ℕ) (k : ℕ) → reading_of text ≡ Err k → IsFaultOf text k
reading_fault text k is =
    let f = faults text Start 0 k is in
    record {
      before = f.before;
      after = f.rest;
      all = f.all;
      place = (let far = f.place in omega (arith, far));
      stands = (f.more, f.tokens, reading_sound (f.before ++ f.more) f.tokens f.stands);
      stops = stops_there text f.before f.rest k f.all is f.stops;
    }

pub one_reading : (text : List ℕ) (ts us : List Token) → reading_of text ≡ Ok ts → IsSchedule text us → us ≡ ts
one_reading text ts us is h = same-tokens (sym (reading_complete text us h) ∙ is)

pub no_reading : (text : List ℕ) (k : ℕ) → reading_of text ≡ Err k → (ts : List Token) → IsSchedule text ts → ⊥
no_reading text k is ts h = ok-err (sym (reading_complete text ts h) ∙ is)

-- The loop

pub given-append : (ts us : List Token) (r : Result (List Token) ℕ) → after_given (ts ++ us) r ≡ after_given ts (after_given us r)
given-append ts us (Ok vs) = ap Ok (append_assoc ts us vs)
given-append ts us (Err at) = refl

pub read_on : (text : List ℕ) (tokens more : List Token) (p q : Place) (at b : ℕ) (m : Mark) (bs : List ℕ) → reading_of text ≡ after_given tokens (run p at (b ∷ bs)) → m ≡ mark_of b
    → Some q ≡ after p m → more ≡ tokens ++ given_at p m → reading_of text ≡ after_given more (run q (at + 1) bs)
read_on text tokens more p q at b m bs so_far says_it next is =
    so_far ∙ ap (after_given tokens) (run-on p q at b bs m (sym says_it) (sym next)) ∙ sym (given-append tokens (given_at p m) (run q (at + 1) bs)) ∙ ap (λ l. after_given l (run q (at + 1) bs)) (sym is)

pub read_off : (text : List ℕ) (tokens : List Token) (p : Place) (at b : ℕ) (m : Mark) (bs : List ℕ) → reading_of text ≡ after_given tokens (run p at (b ∷ bs)) → m ≡ mark_of b → None ≡ after p m
    → reading_of text ≡ Err at
read_off text tokens p at b m bs so_far says_it next = so_far ∙ ap (after_given tokens) (run-off p at b bs m (sym says_it) (sym next))

pub read_open : (text : List ℕ) (tokens : List Token) (p : Place) (at : ℕ) → reading_of text ≡ after_given tokens (run p at []) → ended_at p ≡ false → reading_of text ≡ Err at
read_open text tokens p at so_far no_end = so_far ∙ ap (after_given tokens) (run-open p at no_end)

pub read_end : (text : List ℕ) (tokens all : List Token) (p : Place) (at : ℕ) → reading_of text ≡ after_given tokens (run p at []) → ended_at p ≡ true → all ≡ tokens ++ tokens_at p → reading_of text ≡ Ok all
read_end text tokens all p at so_far end is = so_far ∙ ap (after_given tokens) (run-end p at end) ∙ ap Ok (sym is)

-- The clauses

module _ (text : List ℕ) where
  pub given_reading : (r : Result (List Token) ScheduleError) → Gives r (reading_of text) → IfOk r (λ s. IsSchedule text s)
  given_reading (Ok ts) h = reading_sound text ts h
  given_reading (Err e) h = tt

  pub given_one : (r : Result (List Token) ScheduleError) → Gives r (reading_of text) → IfOk r (λ s. (other : List Token) → IsSchedule text other → other ≡ s)
  given_one (Ok ts) h = λ other o. one_reading text ts other h o
  given_one (Err e) h = tt

  pub given_fault : (r : Result (List Token) ScheduleError) (at : ℕ) → Gives r (reading_of text) → r ≡ Err (BadSchedule at) → reading_of text ≡ Err at
  given_fault r at h is = rw is at h
