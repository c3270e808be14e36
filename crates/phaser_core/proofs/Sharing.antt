-- What all views contribute to the cells of an interval is what its entries sum to.
use Rattle.std.proofs.Common.{◌≡◌, ℕ, zero, suc, ◌+◌, ◌*◌, ◌%◌, ◌<◌, ◌≤◌, ◌==◌, not, Bool, true, false, cond, ltb, List, [], ◌∷◌, ◌++◌, length, get_or, map, filter, sym, refl, ap, ◌∙◌, subst, arith, length-append, append_assoc, ne_eqb}
use mathlib.Core.Logic.{dite}
use mathlib.Core.Option.{some}
use native.Mathlib.Decide.{ℕ_discrete}
use lib.ListN.{get_elem?}
use Rattle.std.proofs.lemmas.Bool.Decides.{nat_tests}
use Rattle.jm_base.specs.declared.types.Entry.{Entry}
use Rattle.jm_base.specs.SumTotals.{total, one_if}
use Rattle.interval_tables.specs.Rows.{sum_of, AllLabels, IsInBounds}
use Rattle.interval_tables.specs.declared.report.Report.{Report}
use Rattle.interval_tables.proofs.Bounds.{AllSmall as AllSmallEntries, sum_in_bounds}
use Rattle.phaser_core.specs.declared.view.Numbers.{Numbers}
use Rattle.phaser_core.specs.declared.view.Stage.{Stage}
use Rattle.phaser_core.specs.declared.view.Stage.TheVariants.{Out, In, On}
use Rattle.phaser_core.specs.declared.view.Joined.{Joined}
use Rattle.phaser_core.specs.declared.view.ReporterStage.{ReporterStage}
use Rattle.phaser_core.specs.declared.view.ReporterStage.TheVariants.{Harvest}
use Rattle.phaser_core.specs.declared.view.ReporterView.{ReporterView}
use Rattle.phaser_core.specs.declared.view.View.{View}
use Rattle.phaser_core.specs.declared.view.View.TheVariants.{Reporter, Writer, Gone}
use Rattle.phaser_core.specs.Cells.{combine, vacant, gather, pick, adds, done, report_from, table_cells, no_report}
use Rattle.phaser_core.specs.Views.{Pair, uses, current, entry_at, stage_at, list_at, joined_at, value, worth}
use Rattle.phaser_core.specs.Shares.{entries_of, joined_share, view_share, share_of, AllInRange, SumsOfLists, SumsOfStripes}
use Rattle.phaser_core.specs.Invariant.{MayCount, AllKept, Fits, AllSmall}
use Rattle.phaser_core.proofs.Halves.{TimelyStage, AllTimely, Timely, Phased, Sound, worth_report}
use Rattle.phaser_core.proofs.PhaseSteps.{bound_exact}
use Rattle.phaser_core.proofs.CellSteps.{may_low, last_is, before_last}
use Rattle.phaser_core.proofs.Folds.{gather_from, gather_append}
use Rattle.phaser_core.proofs.Stripes.{Group, all_of, LabelsIn, SmallIn, group_at, groups_at, stripes_of, groups_report, small_append, labels_append}
use Rattle.phaser_core.proofs.Merging.{in_turn, turns_next, merged_bounds}
use Rattle.jm_base.proofs.Totals.{total_snoc, total_at}

-- The entries with an interval, writer by writer

abbrev pub joined_groups : ℕ → List Joined → List Group
joined_groups m [] = []
joined_groups m (j ∷ js) = (j.number, entries_of m j.list) ∷ joined_groups m js

abbrev view_groups : ℕ → View → List Group
view_groups m (Reporter r) = joined_groups m r.joined
view_groups m (Writer w) = (w.number, entries_of m w.list) ∷ []
view_groups m Gone = []

abbrev groups : ℕ → List View → List Group
groups m [] = []
groups m (v ∷ vs) = view_groups m v ++ groups m vs

-- they are the share

no_more : (es : List Entry) → es ++ [] ≡ es
no_more [] = refl
no_more (e ∷ es) = ap (λ (l : List Entry). e ∷ l) (no_more es)

all_append : (gs hs : List Group) → all_of (gs ++ hs) ≡ all_of gs ++ all_of hs
all_append [] hs = refl
all_append (g ∷ gs) hs = ap (λ (l : List Entry). g.1 ++ l) (all_append gs hs) ∙ sym (append_assoc g.1 (all_of gs) (all_of hs))

joined_all : (m : ℕ) (js : List Joined) → joined_share m js ≡ all_of (joined_groups m js)
joined_all m [] = refl
joined_all m (j ∷ js) = ap (λ (l : List Entry). entries_of m j.list ++ l) (joined_all m js)

view_all : (m : ℕ) (v : View) → view_share m v ≡ all_of (view_groups m v)
view_all m (Reporter r) = joined_all m r.joined
view_all m (Writer w) = sym (no_more (entries_of m w.list))
view_all m Gone = refl

share_all : (m : ℕ) (vs : List View) → share_of m vs ≡ all_of (groups m vs)
share_all m [] = refl
share_all m (v ∷ vs) = (λ i. view_all m v i ++ share_all m vs i) ∙ sym (all_append (view_groups m v) (groups m vs))

-- What a list contributes to a cell is what its entries of the interval do

kept_sum : (labels w : ℕ) (b : Bool) (j : ℕ) (x : Pair) (l : List Pair) → combine (j % 6) (pick b (adds labels w j x.1) (vacant (j % 6))) (gather (j % 6) (adds labels w j) (map (λ (p : Pair). p.1) l)) ≡ gather (j % 6) (adds labels w j) (map (λ (p : Pair). p.1) (cond b (x ∷ l) l))
kept_sum labels w true j x l = refl
kept_sum labels w false j x l = gather_from (j % 6) (adds labels w j) (map (λ (p : Pair). p.1) l)

list_sum : (labels w m j : ℕ) (l : List Pair) → list_at labels w m j l ≡ group_at labels j (w, entries_of m l)
list_sum labels w m j [] = refl
list_sum labels w m j (x ∷ xs) = ap (λ (z : ℕ). combine (j % 6) (entry_at labels w m j x) z) (list_sum labels w m j xs) ∙ kept_sum labels w (x.0 == m) j x (filter (λ (p : Pair). p.0 == m) xs)

pub joined_sum : (labels m j : ℕ) (js : List Joined) → joined_at labels m j js ≡ groups_at labels j (joined_groups m js)
joined_sum labels m j [] = refl
joined_sum labels m j (x ∷ xs) = λ i. combine (j % 6) (list_sum labels x.number m j x.list i) (joined_sum labels m j xs i)

-- no writer that counts is in the interval any more
abbrev Past : ReporterView → ℕ → Type 0
Past r m = (p : Bool) (i : ℕ) → MayCount r.closing r.interval (current r) p i → m < i

old_past : (r : ReporterView) (m : ℕ) → m < r.interval → Past r m
old_past r m lt p i h = let b = may_low r.closing r.interval i (current r) p h in let c = b.0 in omega arith

harvest_past : (r : ReporterView) (j : ℕ) → r.closing ≡ Harvest j → Past r r.interval
harvest_past r j is p i h = let e : i ≡ r.interval + 1 = subst (λ (z : ReporterStage). MayCount z r.interval (current r) p i) is h in omega arith

stage_past : (n : Numbers) (w : ℕ) (r : ReporterView) (l : List Pair) (s : Stage) (m j : ℕ) → TimelyStage n r l s → Past r m → stage_at n.labels w m j s ≡ vacant (j % 6)
stage_past n w r l Out m j h past = refl
stage_past n w r l (In p) m j h past = refl
stage_past n w r l (On p i e d) m j h past = let b = past p i h.0 in ap (λ (b : Bool). pick b (done n.labels w (not e.ok) j e d) (vacant (j % 6))) (ne_eqb i m (λ e. omega arith))

view_sum : (n : Numbers) (r : ReporterView) (m j : ℕ) (v : View) → Timely n r v → Past r m → value n.labels m j v ≡ groups_at n.labels j (view_groups m v)
view_sum n r m j (Reporter q) h past = joined_sum n.labels m j q.joined
view_sum n r m j (Writer w) h past = λ i. combine (j % 6) (list_sum n.labels w.number m j w.list i) (stage_past n w.number r w.list w.stage m j h.0 past i)
view_sum n r m j Gone h past = refl

worth_sum : (n : Numbers) (r : ReporterView) (m j : ℕ) (vs : List View) → ((id : ℕ) (v : View) → get_elem? vs id ≡ some v → Timely n r v) → Past r m → worth n.labels m j vs ≡ groups_at n.labels j (groups m vs)
worth_sum n r m j [] h past = refl
worth_sum n r m j (v ∷ vs) h past =
    (λ i. combine (j % 6) (view_sum n r m j v (h 0 v refl) past i) (worth_sum n r m j vs (λ id u e. h (suc id) u e) past i)) ∙ sym (gather_append (j % 6) (group_at n.labels j) (view_groups m v) (groups m vs))

-- the numbers of a share's entries are those of 32 bits

kept_small : (b : Bool) (x : Pair) (l : List Pair) → x.1.elapsed < 4294967296 → x.1.bytes < 4294967296 → AllSmallEntries (map (λ (p : Pair). p.1) l) → AllSmallEntries (map (λ (p : Pair). p.1) (cond b (x ∷ l) l))
kept_small true x l a b h = (a, b, h)
kept_small false x l a b h = h

list_small : (m : ℕ) (l : List Pair) → AllSmall l → AllSmallEntries (entries_of m l)
list_small m [] h = tt
list_small m (x ∷ xs) h = kept_small (x.0 == m) x (filter (λ (p : Pair). p.0 == m) xs) h.0 h.1 (list_small m xs h.2)

joined_small : (a m : ℕ) (js : List Joined) → AllTimely a js → SmallIn (joined_groups m js)
joined_small a m [] h = tt
joined_small a m (x ∷ xs) h = (list_small m x.list h.0.2, joined_small a m xs h.1)

view_small : (n : Numbers) (r : ReporterView) (m : ℕ) (v : View) → Timely n r v → SmallIn (view_groups m v)
view_small n r m (Reporter q) h = joined_small _ m q.joined h
view_small n r m (Writer w) h = (list_small m w.list h.3, tt)
view_small n r m Gone h = tt

small_groups : (gs hs : List Group) → SmallIn gs → SmallIn hs → SmallIn (gs ++ hs)
small_groups [] hs a b = b
small_groups (g ∷ gs) hs a b = (a.0, small_groups gs hs a.1 b)

groups_small : (n : Numbers) (r : ReporterView) (m : ℕ) (vs : List View) → ((id : ℕ) (v : View) → get_elem? vs id ≡ some v → Timely n r v) → SmallIn (groups m vs)
groups_small n r m [] h = tt
groups_small n r m (v ∷ vs) h = small_groups (view_groups m v) (groups m vs) (view_small n r m v (h 0 v refl)) (groups_small n r m vs (λ id u e. h (suc id) u e))

small_of : (gs : List Group) → SmallIn gs → AllSmallEntries (all_of gs)
small_of [] h = tt
small_of (g ∷ gs) h = small_append g.1 (all_of gs) h.0 (small_of gs h.1)

-- Labels

kept_labels : (n : ℕ) (b : Bool) (x : Pair) (l : List Pair) → x.1.label < n → AllLabels n (map (λ (p : Pair). p.1) l) → AllLabels n (map (λ (p : Pair). p.1) (cond b (x ∷ l) l))
kept_labels n true x l h a = (h, a)
kept_labels n false x l h a = a

list_labels : (n m : ℕ) (l : List Pair) → AllInRange n l → AllLabels n (entries_of m l)
list_labels n m [] h = tt
list_labels n m (x ∷ xs) h = kept_labels n (x.0 == m) x (filter (λ (p : Pair). p.0 == m) xs) h.0 (list_labels n m xs h.1)

joined_labels : (n : Numbers) (made m : ℕ) (js : List Joined) → AllKept n made js → LabelsIn n.labels (joined_groups m js)
joined_labels n made m [] h = tt
joined_labels n made m (x ∷ xs) h = (list_labels n.labels m x.list h.1, joined_labels n made m xs h.4)

view_labels : (n : Numbers) (made id m : ℕ) (v : View) → Fits n made id v → LabelsIn n.labels (view_groups m v)
view_labels n made id m (Reporter r) f = joined_labels n made m r.joined f.1
view_labels n made id m (Writer w) f = (list_labels n.labels m w.list f.2, tt)
view_labels n made id m Gone f = tt

labels_groups : (n : ℕ) (gs hs : List Group) → LabelsIn n gs → LabelsIn n hs → LabelsIn n (gs ++ hs)
labels_groups n [] hs a b = b
labels_groups n (g ∷ gs) hs a b = (a.0, labels_groups n gs hs a.1 b)

groups_labels : (n : Numbers) (made m : ℕ) (vs : List View) → ((id : ℕ) (v : View) → get_elem? vs id ≡ some v → (at : ℕ) × Fits n made at v) → LabelsIn n.labels (groups m vs)
groups_labels n made m [] h = tt
groups_labels n made m (v ∷ vs) h = let f = h 0 v refl in labels_groups n.labels (view_groups m v) (groups m vs) (view_labels n made f.0 m v f.1) (groups_labels n made m vs (λ id u e. h (suc id) u e))

labels_of : (n : ℕ) (gs : List Group) → LabelsIn n gs → AllLabels n (all_of gs)
labels_of n [] h = tt
labels_of n (g ∷ gs) h = labels_append n g.1 (all_of gs) h.0 (labels_of n gs h.1)

-- Lengths

upto : ℕ → (ℕ → ℕ) → ℕ
upto zero f = 0
upto (suc k) f = upto k f + f k

upto_add : (k : ℕ) (f g h : ℕ → ℕ) → ((m : ℕ) → h m ≡ f m + g m) → upto k h ≡ upto k f + upto k g
unfolding upto
upto_add zero f g h e = refl
upto_add (suc k) f g h e = let r = upto_add k f g h e in let s = e k in omega arith

upto_none : (k : ℕ) (f : ℕ → ℕ) → ((m : ℕ) → f m ≡ 0) → upto k f ≡ 0
unfolding upto
upto_none zero f e = refl
upto_none (suc k) f e = let r = upto_none k f e in let s = e k in omega arith

bool_low : (b : Bool) → one_if b ≤ 1
bool_low true = omega arith
bool_low false = omega arith

once_more : (a k : ℕ) → one_if (ltb a k) + one_if (a == k) ≤ one_if (ltb a (suc k))
once_more a k = grind (arith, nat_tests)

-- one interval is at most once below k
upto_one : (k a : ℕ) → upto k (λ m. one_if (a == m)) ≤ one_if (ltb a k)
unfolding upto
upto_one zero a = omega arith
upto_one (suc k) a = let r = upto_one k a in let s = once_more a k in omega arith

kept_length : (b : Bool) (x : Pair) (l : List Pair) → length (map (λ (p : Pair). p.1) (cond b (x ∷ l) l)) ≡ one_if b + length (map (λ (p : Pair). p.1) l)
kept_length true x l = omega arith
kept_length false x l = omega arith

list_upto : (k : ℕ) (l : List Pair) → upto k (λ m. length (entries_of m l)) ≤ length l
list_upto k [] = let z = upto_none k (λ m. 0) (λ m. refl) in omega arith
list_upto k (x ∷ xs) =
    let r = list_upto k xs in let s = upto_add k (λ m. one_if (x.0 == m)) (λ m. length (entries_of m xs)) (λ m. length (entries_of m (x ∷ xs))) (λ m. kept_length (x.0 == m) x (filter (λ (p : Pair). p.0 == m) xs)) in
    let o = upto_one k x.0 in let b = bool_low (ltb x.0 k) in omega arith

joined_upto : (k : ℕ) (js : List Joined) → upto k (λ m. length (joined_share m js)) ≤ total (λ (j : Joined). length j.list) js
joined_upto k [] = let z = upto_none k (λ m. 0) (λ m. refl) in omega arith
joined_upto k (x ∷ xs) = let r = joined_upto k xs in let t = list_upto k x.list in
    let s = upto_add k (λ m. length (entries_of m x.list)) (λ m. length (joined_share m xs)) (λ m. length (joined_share m (x ∷ xs))) (λ m. length-append (entries_of m x.list) (joined_share m xs)) in omega arith

view_upto : (k : ℕ) (v : View) → upto k (λ m. length (view_share m v)) ≤ uses v
view_upto k (Reporter r) = joined_upto k r.joined
view_upto k (Writer w) = let t = list_upto k w.list in omega arith
view_upto k Gone = let z = upto_none k (λ m. 0) (λ m. refl) in omega arith

share_upto : (k : ℕ) (vs : List View) → upto k (λ m. length (share_of m vs)) ≤ total uses vs
share_upto k [] = let z = upto_none k (λ m. 0) (λ m. refl) in omega arith
share_upto k (v ∷ vs) = let r = share_upto k vs in let t = view_upto k v in
    let s = upto_add k (λ m. length (view_share m v)) (λ m. length (share_of m vs)) (λ m. length (share_of m (v ∷ vs))) (λ m. length-append (view_share m v) (share_of m vs)) in omega arith

list_few : (m : ℕ) (l : List Pair) → length (entries_of m l) ≤ length l
list_few m [] = omega arith
list_few m (x ∷ xs) = let r = list_few m xs in let s = kept_length (x.0 == m) x (filter (λ (p : Pair). p.0 == m) xs) in let b = bool_low (x.0 == m) in omega arith

joined_few : (m : ℕ) (js : List Joined) → length (joined_share m js) ≤ total (λ (j : Joined). length j.list) js
joined_few m [] = omega arith
joined_few m (x ∷ xs) = let r = joined_few m xs in let t = list_few m x.list in let s = length-append (entries_of m x.list) (joined_share m xs) in omega arith

view_few : (m : ℕ) (v : View) → length (view_share m v) ≤ uses v
view_few m (Reporter r) = joined_few m r.joined
view_few m (Writer w) = let t = list_few m w.list in omega arith
view_few m Gone = omega arith

share_few : (m : ℕ) (vs : List View) → length (share_of m vs) ≤ total uses vs
share_few m [] = omega arith
share_few m (v ∷ vs) = let r = share_few m vs in let t = view_few m v in let s = length-append (view_share m v) (share_of m vs) in omega arith

-- Shares

module _ (n : Numbers) (ws : List ℕ) (vs : List View) (p : Phased n ws vs) (timely : (id : ℕ) (v : View) → get_elem? vs id ≡ some v → Timely n p.reader v) (m : ℕ) where
  in_range : LabelsIn n.labels (groups m vs)
  in_range = groups_labels n p.made m vs (λ id v e. (id, p.each id v e))

  small : SmallIn (groups m vs)
  small = groups_small n p.reader m vs timely

  pub share_labels : AllLabels n.labels (share_of m vs)
  share_labels = subst (AllLabels n.labels) (sym (share_all m vs)) (labels_of n.labels (groups m vs) in_range)

  pub share_small : AllSmallEntries (share_of m vs)
  share_small = subst AllSmallEntries (sym (share_all m vs)) (small_of (groups m vs) small)

  few : length (all_of (groups m vs)) ≤ 4194304
  few =
      let same : length (share_of m vs) ≡ length (all_of (groups m vs)) = ap (λ (l : List Entry). length l) (share_all m vs) in
      let s = share_few m vs in let b = bound_exact n ws vs p in let most : n.writers * n.budget ≤ 4194304 = p.sizes.3 in omega arith

  -- what all views contribute to an interval below the closing one is the sum of its share
  pub worth_share : m < p.reader.interval → worth_report n.labels m vs ≡ record { interval = m; rows = sum_of n.labels (share_of m vs) }
  worth_share lt =
      groups_report n.labels m (λ j. worth n.labels m j vs) (groups m vs) in_range small few (λ j low. worth_sum n p.reader m j vs timely (old_past p.reader m lt))
      ∙ ap (λ (es : List Entry). record { interval = m; rows = sum_of n.labels es }) (sym (share_all m vs))

  -- while the cells of the closing interval are taken, those of which f gives what all views contribute sum some entries
  pub taken_sums : (j count : ℕ) (f : ℕ → ℕ) → p.reader.closing ≡ Harvest j → m ≡ p.reader.interval → ((i : ℕ) → i < count → f i ≡ worth n.labels m i vs) → SumsOfStripes n.labels count f
  taken_sums j count f harvest here is =
      stripes_of n.labels count f (groups m vs) in_range small few (λ i low. is i low ∙ worth_sum n p.reader m i vs timely (subst (Past p.reader) (sym here) (harvest_past p.reader j harvest)))

-- the shares of all closed intervals
lists_to : ℕ → List View → List (List Entry)
lists_to zero vs = []
lists_to (suc k) vs = lists_to k vs ++ share_of k vs ∷ []

lists_length : (k : ℕ) (vs : List View) → length (lists_to k vs) ≡ k
unfolding lists_to
lists_length zero vs = refl
lists_length (suc k) vs = length-append (lists_to k vs) (share_of k vs ∷ []) ∙ (let r = lists_length k vs in omega arith)

lists_total : (k : ℕ) (vs : List View) → total (λ (l : List Entry). length l) (lists_to k vs) ≡ upto k (λ m. length (share_of m vs))
unfolding lists_to upto
lists_total zero vs = refl
lists_total (suc k) vs = total_snoc (λ (l : List Entry). length l) (lists_to k vs) (share_of k vs) ∙ ap (λ (z : ℕ). z + length (share_of k vs)) (lists_total k vs)

lists_at : (k : ℕ) (vs : List View) (m : ℕ) → m < k → get_or (lists_to k vs) m [] ≡ share_of m vs
unfolding lists_to
lists_at zero vs m lt = absurd (omega arith)
lists_at (suc k) vs m lt = let len = lists_length k vs in dite (ℕ_discrete m k)
    (λ e. subst (λ (z : ℕ). get_or (lists_to k vs ++ share_of k vs ∷ []) z [] ≡ share_of z vs) (sym e) (last_is (lists_to k vs) (share_of k vs) [] k len))
    (λ ne. before_last (lists_to k vs) (share_of k vs) [] m (omega arith) ∙ lists_at k vs m (omega arith))

part_length : (ls : List (List Entry)) (m : ℕ) → length (get_or ls m []) ≤ total (λ (l : List Entry). length l) ls
part_length [] m = omega arith
part_length (l ∷ ls) zero = omega arith
part_length (l ∷ ls) (suc m) = let h : length (get_or ls m []) ≤ total (λ (l : List Entry). length l) ls = part_length ls m in omega arith

turns_length : (k : ℕ) (vs : List View) → length (in_turn 0 k (λ m. share_of m vs)) ≡ upto k (λ m. length (share_of m vs))
unfolding upto
turns_length zero vs = refl
turns_length (suc k) vs =
    let f : ℕ → List Entry = λ m. share_of m vs in
    let last : f (0 + k) ≡ f k = ap f (let e : 0 + k ≡ k = omega arith in e) in
    ap (λ (l : List Entry). length l) (turns_next 0 k f ∙ ap (λ (l : List Entry). in_turn 0 k f ++ l) last)
    ∙ length-append (in_turn 0 k f) (f k) ∙ ap (λ (z : ℕ). z + length (f k)) (turns_length k vs)

-- the report that sums few entries is in bounds
report_bounds : (n : Numbers) (report : Report) (m : ℕ) (es : List Entry) → report ≡ record { interval = m; rows = sum_of n.labels es } → AllLabels n.labels es → AllSmallEntries es → length es ≤ 4194304 → IsInBounds report.rows
report_bounds n report m es is labels small few = subst (λ (q : Report). IsInBounds q.rows) (sym is) (sum_in_bounds n.labels es labels small few)

pub sums_of_lists : (n : Numbers) (ws : List ℕ) (vs : List View) (k : Sound n ws vs) → SumsOfLists n k.phased.reader
sums_of_lists n ws vs k =
    let r : ReporterView = k.phased.reader in
    let t = lists_total r.interval vs in let u = share_upto r.interval vs in let b = bound_exact n ws vs k.phased in let closed = k.counted.reports in
    let labels_in : (m : ℕ) → AllLabels n.labels (share_of m vs) = λ m. share_labels n ws vs k.phased k.counted.timely m in
    let sum_is : (m : ℕ) → m < length r.closed → get_or r.closed m no_report ≡ record { interval = m; rows = sum_of n.labels (share_of m vs) } = λ m lt. k.counted.sums_are m (omega arith) ∙ worth_share n ws vs k.phased k.counted.timely m (omega arith) in
    let most : n.writers * n.budget ≤ 4194304 = k.phased.sizes.3 in
    record {
      lists = lists_to r.interval vs;
      count = lists_length r.interval vs ∙ sym closed;
      few = omega arith;
      labels = λ m lt. subst (AllLabels n.labels) (sym (lists_at r.interval vs m (omega arith))) (labels_in m);
      sums = λ m lt. sum_is m lt ∙ ap (λ (es : List Entry). record { interval = m; rows = sum_of n.labels es }) (sym (lists_at r.interval vs m (omega arith)));
      bounds = λ m lt.
          let part : length (get_or (lists_to r.interval vs) m []) ≤ total (λ (l : List Entry). length l) (lists_to r.interval vs) = part_length (lists_to r.interval vs) m in
          let here : length (get_or (lists_to r.interval vs) m []) ≡ length (share_of m vs) = ap length (lists_at r.interval vs m (omega arith)) in
          report_bounds n (get_or r.closed m no_report) m (share_of m vs) (sum_is m lt) (labels_in m) (share_small n ws vs k.phased k.counted.timely m) (omega arith);
      together =
          let all : length (in_turn 0 (length r.closed) (λ m. share_of m vs)) ≡ upto (length r.closed) (λ m. length (share_of m vs)) = turns_length (length r.closed) vs in
          let same : upto (length r.closed) (λ m. length (share_of m vs)) ≡ upto r.interval (λ m. length (share_of m vs)) = ap (λ (z : ℕ). upto z (λ m. length (share_of m vs))) closed in
          merged_bounds n.labels r.closed (λ m. share_of m vs) (λ m lt. ap (λ (q : Report). q.rows) (sum_is m lt)) labels_in (λ m. share_small n ws vs k.phased k.counted.timely m) (omega arith);
    }

-- Joined writers

-- the entries of joined writers are few, with labels in range
pub record Countable (labels : ℕ) (js : List Joined) : Type 0 where
  pub in_range : (m : ℕ) → LabelsIn labels (joined_groups m js)
  pub small : (m : ℕ) → SmallIn (joined_groups m js)
  pub few : (m : ℕ) → length (all_of (joined_groups m js)) ≤ 4194304

pub joined_counts : (n : Numbers) (ws : List ℕ) (vs : List View) (k : Sound n ws vs) (id : ℕ) (r : ReporterView) → get_elem? vs id ≡ some (Reporter r) → Countable n.labels r.joined
joined_counts n ws vs k id r at =
    let mine : Fits n k.phased.made id (Reporter r) = k.phased.each id (Reporter r) at in
    let here : uses (Reporter r) ≤ total uses vs = total_at uses vs id (Reporter r) at in
    let b = bound_exact n ws vs k.phased in let most : n.writers * n.budget ≤ 4194304 = k.phased.sizes.3 in
    record {
      in_range = λ m. joined_labels n k.phased.made m r.joined mine.1;
      small = λ m. joined_small _ m r.joined (k.counted.timely id (Reporter r) at);
      few = λ m. let f = joined_few m r.joined in let same : length (joined_share m r.joined) ≡ length (all_of (joined_groups m r.joined)) = ap (λ (l : List Entry). length l) (joined_all m r.joined) in omega arith;
    }

-- what joined writers recorded in an interval sums to rows in bounds
pub joined_low : (n : Numbers) (ws : List ℕ) (vs : List View) (k : Sound n ws vs) (id : ℕ) (r : ReporterView) → get_elem? vs id ≡ some (Reporter r) → (m : ℕ) → IsInBounds (sum_of n.labels (joined_share m r.joined))
joined_low n ws vs k id r at m =
    let c = joined_counts n ws vs k id r at in
    subst (λ (es : List Entry). IsInBounds (sum_of n.labels es)) (sym (joined_all m r.joined))
    (sum_in_bounds n.labels (all_of (joined_groups m r.joined)) (labels_of n.labels (joined_groups m r.joined) (c.in_range m)) (small_of (joined_groups m r.joined) (c.small m)) (c.few m))

-- cells that are what the joined lists contribute sum their entries
pub joined_stripes : (labels m count : ℕ) (js : List Joined) (f : ℕ → ℕ) → Countable labels js → ((j : ℕ) → j < count → f j ≡ joined_at labels m j js) → SumsOfStripes labels count f
joined_stripes labels m count js f c is = stripes_of labels count f (joined_groups m js) (c.in_range m) (c.small m) (c.few m) (λ j low. is j low ∙ joined_sum labels m j js)

-- and so does the report of such cells
pub joined_report : (labels m : ℕ) (js : List Joined) (f : ℕ → ℕ) → Countable labels js → ((j : ℕ) → j < table_cells labels → f j ≡ joined_at labels m j js) → report_from labels m f ≡ record { interval = m; rows = sum_of labels (joined_share m js) }
joined_report labels m js f c is =
    groups_report labels m f (joined_groups m js) (c.in_range m) (c.small m) (c.few m) (λ j low. is j low ∙ joined_sum labels m j js)
    ∙ ap (λ (es : List Entry). record { interval = m; rows = sum_of labels es }) (sym (joined_all m js))
