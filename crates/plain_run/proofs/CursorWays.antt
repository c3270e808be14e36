-- How a thread comes through an element by its cursor.
use Rattle.std.proofs.Common.{◌≡◌, ℕ, suc, ◌+◌, ◌*◌, ◌≤◌, ◌<◌, List, length, Some, Result, Ok, Err, refl, sym, ap, ◌∙◌, subst, arith}
use Rattle.std.specs.Prelude.{slice_get}
use Rattle.std.proofs.Math.Nat.{mul-le-mul_right}
use Rattle.jm_base.specs.declared.errors.NoMemory.{NoMemory}
use Rattle.jm_base.specs.declared.types.End.TheVariants.{ValueLimit as PastValueLimit}
use Rattle.jm_base.specs.Run.{over}
use Rattle.jm_base.specs.Outside.{Account}
use Rattle.element_tree.specs.declared.kinds.Element.{Element}
use Rattle.element_tree.specs.declared.kinds.Kind.{Kind}
use Rattle.element_tree.specs.declared.kinds.Kind.TheVariants.{Script, Http, Transaction as TransactionKind, CriticalSection}
use Rattle.element_tree.specs.declared.package.Turn.{Turn}
use Rattle.element_tree.specs.declared.package.Turn.TheVariants.{Child, Round, Over}
use Rattle.element_tree.specs.Tree.{Tree}
use Rattle.thread_vars.specs.declared.error.VarError.{VarError}
use Rattle.thread_vars.specs.declared.error.VarError.TheVariants.{ValueLimit, NoMemory as NoMemoryLeft}
use Rattle.var_functions.specs.declared.state.UserState.{UserState}
use Rattle.sampler_pipeline.specs.SamplerPipeline.{label_at}
use Rattle.jm_meaning.specs.declared.signal.Signal.{Signal}
use Rattle.jm_meaning.specs.declared.signal.Signal.TheVariants.{Normal, Stop}
use Rattle.jm_meaning.specs.State.{State, Own, Part, normal, stopped, on_normal, and_then, with_round, with_unit}
use Rattle.jm_meaning.specs.Beginning.{max_rounds}
use Rattle.jm_meaning.specs.Children.{Below, children_of, one_of}
use Rattle.jm_meaning.specs.Sampling.{sampling}
use Rattle.jm_meaning.specs.Meaning.{Here, kind_meaning}
use Rattle.open_elements.specs.declared.cursor.Cursor.{Cursor}
use Rattle.open_elements.specs.declared.cursor.Cursor.TheVariants.{Transaction, Section}
use Rattle.open_elements.specs.declared.entering.Entered.{Entered}
use Rattle.open_elements.specs.declared.entering.Entered.TheVariants.{Nothing, Sampler, Open}
use Rattle.open_elements.specs.Answers.{CursorAnswers}
use Rattle.open_elements.specs.ChildrenLeft.{children_left}
use Rattle.open_elements.specs.Closing.{closing}
use Rattle.open_elements.specs.Cursors.{cursor_left, round_in, begun_of, Shut, Plain, shut_of, FitsKind}
use Rattle.open_elements.specs.Entering.{entered, opening, kind_part, IsSamplerKind, HasEntered}
use Rattle.cursor_steps.specs.RunningChildren.{begun_after}
use Rattle.open_elements.specs.Moves.{turned}
use Rattle.open_elements.proofs.CursorCases.{few_in_pass}
use Rattle.plain_run.specs.declared.progress.Progress.{Progress}
use Rattle.plain_run.specs.Plays.{state_in, Plays, IsUnderWay, Runs, here_of}
use Rattle.plain_run.proofs.Ways.{OnWay, way-start, way-as, way-silent, way-over, way-then, way-stop}
use Rattle.plain_run.proofs.UnderWay.{on-way-in, on-way-then, way-runs}
use Rattle.plain_run.proofs.RoundWays.{split}
use Rattle.plain_run.proofs.StepLaws.{at-limit, at-memory}

-- what templates don't see of a thread that has come so far
abbrev own_of : Progress → Own
own_of p = record { units = p.units; rounds = p.rounds; places = p.places; config = p.config.places }

-- ---- an open controller

-- The thread has come from what was left by one cursor of its element to what is left by another, and the rounds of both together
-- are within the limit.
pub record Turning (a : Account) (p0 : Progress) (below : Below) (round : ℕ) (elements : List Element) (number : ℕ) (e : Element) (first : Cursor) (p : Progress) (c : Cursor) (b : Account) : Type 0 where
  pub way : OnWay a p0 (cursor_left below round (children_of elements e) e first) (cursor_left below round (children_of elements e) e c) p b
  pub fits : FitsKind number (length (children_of elements e)) e.kind c
  pub count : begun_of c + p.rounds ≤ max_rounds

pub turning-start : (a : Account) (p : Progress) (below : Below) (round : ℕ) (elements : List Element) (number : ℕ) (e : Element) (c : Cursor) → FitsKind number (length (children_of elements e)) e.kind c
    → begun_of c ≡ 0 → p.rounds ≤ max_rounds → Turning a p below round elements number e c p c a
turning-start a p below round elements number e c fits none few =
    record { way = way-start a p (cursor_left below round (children_of elements e) e c); fits = fits; count = omega (arith, none, few) }

module _ (a b d : Account) (p0 p : Progress) (plan : Tree) (below : Below) (round number : ℕ) (e : Element) (first old new : Cursor) (user : UserState) (there : slice_get plan.elements number ≡ Some e)
    (at : Turning a p0 below round plan.elements number e first p old b) where
  abbrev cs : List ℕ
  cs = children_of plan.elements e

  abbrev whole : Part
  whole = cursor_left below round cs e first

  abbrev left : Part
  left = cursor_left below round cs e new

  abbrev q : Progress
  q = record p { user = user }

  module _ (turn : Turn) (answers : CursorAnswers plan round b old p.user d new user (Ok turn)) where
    answered : OnWay a p0 whole (λ s. turned below (round_in round new) cs left s turn) q d
    answered =
        way-silent (λ s. turned below (round_in round new) cs left s turn) q at.way (answers.came e number below (own_of p) there at.fits at.count) refl refl (omega arith) refl

    -- nothing comes next
    pub turns-over : turn ≡ Over → Plays a p0 whole Normal q d
    turns-over is = way-over Normal answered (ap (λ t. turned below (round_in round new) cs left (state_in q) t) is)

    -- a round comes next, which is taken
    module _ (is : turn ≡ Round) (r : Progress) (signal : Signal) (taking : Plays d q (λ s. with_round s (λ s. over (normal s))) signal r d) where
      at_round : OnWay a p0 whole (λ s. with_round s left) q d
      at_round = way-as (λ s. with_round s left) answered (ap (λ t. turned below (round_in round new) cs left (state_in q) t) is)

      pub turn-taken : signal ≡ Normal → r.rounds < q.rounds → Turning a p0 below round plan.elements number e first r new d
      turn-taken so fewer = record {
        way = way-then (λ s. with_round s (λ s. over (normal s))) left at_round (split p.rounds (state_in q) (λ s. over (normal s)) left) taking so;
        fits = answers.fits e number there at.fits;
        count = let k = subst (λ t. begun_of new ≤ begun_after (begun_of old) t) is answers.begun in omega (arith, k, at.count, fewer);
      }

      pub turn-not-taken : (signal ≡ Normal → ⊥) → Plays a p0 whole signal r d
      turn-not-taken other = way-stop (λ s. with_round s (λ s. over (normal s))) left at_round (split p.rounds (state_in q) (λ s. over (normal s)) left) taking other

    -- a child comes next, and is run
    module _ (place within : ℕ) (children : List ℕ) (is : turn ≡ Child place) (its : within ≡ round_in round new) (are : children ≡ cs) (c : Account) where
      abbrev child : Part
      child = one_of below within (slice_get children place)

      at_child : OnWay a p0 whole (λ s. and_then (child s) left) q d
      at_child = way-as (λ s. and_then (child s) left) answered
          (ap (λ t. turned below (round_in round new) cs left (state_in q) t) is
          ∙ ap (λ k. and_then (one_of below k (slice_get cs place) (state_in q)) left) (sym its)
          ∙ ap (λ l. and_then (one_of below within (slice_get l place) (state_in q)) left) (sym are))

      pub turn-cut : IsUnderWay d (child (state_in q)) c → IsUnderWay a (whole (state_in p0)) c
      turn-cut cut = on-way-in (child (state_in q)) (on_normal left) at_child refl cut

      module _ (r : Progress) (signal : Signal) (plays : Plays d q child signal r c) where
        pub turn-done : signal ≡ Normal → Turning a p0 below round plan.elements number e first r new c
        turn-done so = record {
          way = way-then child left at_child refl plays so;
          fits = answers.fits e number there at.fits;
          count = let k = subst (λ t. begun_of new ≤ begun_after (begun_of old) t) is answers.begun in omega (arith, k, at.count, plays.fewer);
        }

        pub turn-last : (signal ≡ Normal → ⊥) → Plays a p0 whole signal r c
        turn-last other = way-stop child left at_child refl plays other

  -- it was refused
  module _ (error : VarError) (answers : CursorAnswers plan round b old p.user d new user (Err error)) where
    pub turn-past : error ≡ ValueLimit → Plays a p0 whole (Stop PastValueLimit) q d
    turn-past is =
        way-over (Stop PastValueLimit)
        (way-silent (λ s. over (stopped PastValueLimit s)) q at.way (at-limit (answers.came e number below (own_of p) there at.fits at.count) is) refl refl (omega arith) refl) refl

    pub turn-out : error ≡ NoMemoryLeft → IsUnderWay a (whole (state_in p0)) d
    turn-out is = on-way-then at.way (at-memory (answers.came e number below (own_of p) there at.fits at.count) is)

-- ---- an element that is entered

-- a sampler by its number
sampler-part : (here : Here) (number : ℕ) (e : Element) (k : Kind) (s : State) → IsSamplerKind k → kind_part here number e k s ≡ with_unit s (sampling here.plan.elements number here.at_failure)
sampler-part here number e (Script replies request) s is = refl
sampler-part here number e (Http body host method params path port replies) s is = refl
sampler-part here number e k s is = absurd is

-- the cursor of another element than a transaction and a section
plain-cursor : (number count : ℕ) (k : Kind) (c : Cursor) → FitsKind number count k c → (k ≡ TransactionKind → ⊥) → ((name : List ℕ) → k ≡ CriticalSection name → ⊥) → shut_of c ≡ Plain
plain-cursor number count k (Transaction c) fits transaction section = absurd (transaction fits.1)
plain-cursor number count k (Section c) fits transaction section = absurd (section fits.1.0 fits.1.1)
plain-cursor number count k c fits transaction section = refl

-- nothing comes before what is left by its cursor, or after it
opened-plain : (label : ℕ) (shut : Shut) (part : Part) (s : State) → shut ≡ Plain → opening shut (λ s. closing label shut (part s)) s ≡ part s
opened-plain label shut part s is = rw is refl

module _ (a b : Account) (p : Progress) (plan : Tree) (failure : Signal) (below : Below) (number round : ℕ) (e : Element) (user : UserState) (places : List ℕ) (there : slice_get plan.elements number ≡ Some e) where
  abbrev meant : Part
  meant = kind_meaning (here_of plan failure) below number e e.kind round

  abbrev moved : Progress
  moved = record p { user = user; places = places }

  module _ (x : Entered) (has : HasEntered plan number a p.user p.places b user places (Ok x)) where
    inside : OnWay a p meant (λ s. entered (here_of plan failure) below number round e s x) moved b
    inside = way-silent (λ s. entered (here_of plan failure) below number round e s x) moved (way-start a p meant) (has.came e failure below round (own_of p) there) refl refl (omega arith) refl

    pub nothing-entered : x ≡ Nothing → Plays a p meant Normal moved b
    nothing-entered is = way-over Normal inside (ap (λ y. entered (here_of plan failure) below number round e (state_in moved) y) is)

  module _ (c : Account) (r : Progress) (result : Result Signal NoMemory) where
    pub sampler-entered : HasEntered plan number a p.user p.places b user places (Ok Sampler) → Runs b moved (λ s. with_unit s (sampling plan.elements number failure)) result r c → Runs a p meant result r c
    sampler-entered has runs =
        way-runs c r result (way-as (λ s. with_unit s (sampling plan.elements number failure)) (inside Sampler has) (sampler-part (here_of plan failure) number e e.kind (state_in moved) (has.fits e there))) runs

    pub controller-entered : (cursor : Cursor) → HasEntered plan number a p.user p.places b user places (Ok (Open cursor)) → (e.kind ≡ TransactionKind → ⊥) → ((name : List ℕ) → e.kind ≡ CriticalSection name → ⊥)
        → Runs b moved (cursor_left below round (children_of plan.elements e) e cursor) result r c → Runs a p meant result r c
    controller-entered cursor has transaction section runs =
        way-runs c r result
        (way-as (cursor_left below round (children_of plan.elements e) e cursor) (inside (Open cursor) has)
        (opened-plain (label_at plan.elements number) (shut_of cursor) (cursor_left below round (children_of plan.elements e) e cursor) (state_in moved)
        (plain-cursor number (length (children_of plan.elements e)) e.kind cursor (has.fits e there).0 transaction section))) runs

  -- it was refused
  module _ (error : VarError) (has : HasEntered plan number a p.user p.places b user places (Err error)) where
    pub enter-past : error ≡ ValueLimit → Plays a p meant (Stop PastValueLimit) moved b
    enter-past is =
        way-over (Stop PastValueLimit)
        (way-silent (λ s. over (stopped PastValueLimit s)) moved (way-start a p meant) (at-limit (has.came e failure below round (own_of p) there) is) refl refl (omega arith) refl) refl

    pub enter-out : error ≡ NoMemoryLeft → IsUnderWay a (meant (state_in p)) b
    enter-out is = at-memory (has.came e failure below round (own_of p) there) is

-- ---- the turns of an element come to an end

-- a round was taken: few children are left in any round
pub round-lighter : (elements : List Element) (number : ℕ) (e : Element) (children : List ℕ) (old new : Cursor) (rounds left : ℕ) → children ≡ children_of elements e
    → FitsKind number (length (children_of elements e)) e.kind new → left < rounds → left * suc (length children) + children_left new < rounds * suc (length children) + children_left old
round-lighter elements number e children old new rounds left are fits less =
    let few = few_in_pass number (length (children_of elements e)) e.kind new fits in
    let same : length children ≡ length (children_of elements e) = ap (λ (l : List ℕ). length l) are in
    let most : suc left * suc (length children) ≤ rounds * suc (length children) = mul-le-mul_right (suc (length children)) (omega (arith, less)) in
    let one : suc left * suc (length children) ≡ left * suc (length children) + suc (length children) = grind arith in
    omega (arith, few, same, most, one)
