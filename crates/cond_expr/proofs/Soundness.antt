-- What the machine reads is in the grammar, and at each state some condition can still come.
use Rattle.std.proofs.Common.{◌≡◌, ℕ, suc, ◌+◌, ◌<◌, ◌≤◌, Bool, true, false, nat_le, List, [], ◌∷◌, ◌++◌, if◌then◌else◌, refl, ap, sym, ◌∙◌, subst, arith, append_assoc}
use Rattle.std.proofs.lemmas.Bool.Decides.{nat_tests}
use Rattle.cond_expr.specs.declared.value.Operator.{Operator}
use Rattle.cond_expr.specs.declared.value.Operator.TheVariants.{Or, And, Equal, NotEqual, Less, LessOrEqual, Greater, GreaterOrEqual}
use Rattle.cond_expr.specs.declared.token.Token.TheVariants.{Not, Open, Close, Operate}
use Rattle.cond_expr.specs.Tokens.{Placed}
use Rattle.cond_expr.specs.ConditionTree.{Reading, negated, operated}
use Rattle.cond_expr.specs.ConditionGrammar.{Strength, disjunction, conjunction, comparison, operand, placed, Reads, negation, group, compare, both, either, one_operand, one_comparison, one_conjunction, max_depth, IsConditionOf, BeginsCondition}
use Rattle.cond_expr.specs.ConditionMachine as machine
use Rattle.cond_expr.specs.ConditionMachine.{Frame, left_side, depth_of, State, awaiting, complete, closed, frame_strength, settled, chains, strength, operate, close, next, run}
use Rattle.cond_expr.proofs.Settling.{Loose, Loose-any, nat_le-holds}

-- how strongly the frame around a reading of this strength may bind at most, and 1
abbrev pub bound : Strength → ℕ
bound disjunction = 1
bound conjunction = 2
bound comparison = 3
bound operand = 5

pub to_operand : (L : Strength) (levels : ℕ) (ts : List Placed) (r : Reading) → 4 ≤ bound L → Reads L levels ts r → Reads operand levels ts r
to_operand disjunction levels ts r h d = absurd (omega arith)
to_operand conjunction levels ts r h d = absurd (omega arith)
to_operand comparison levels ts r h d = absurd (omega arith)
to_operand operand levels ts r h d = d

pub to_comparison : (L : Strength) (levels : ℕ) (ts : List Placed) (r : Reading) → 3 ≤ bound L → Reads L levels ts r → Reads comparison levels ts r
to_comparison disjunction levels ts r h d = absurd (omega arith)
to_comparison conjunction levels ts r h d = absurd (omega arith)
to_comparison comparison levels ts r h d = d
to_comparison operand levels ts r h d = one_operand levels ts r d

pub to_conjunction : (L : Strength) (levels : ℕ) (ts : List Placed) (r : Reading) → 2 ≤ bound L → Reads L levels ts r → Reads conjunction levels ts r
to_conjunction disjunction levels ts r h d = absurd (omega arith)
to_conjunction conjunction levels ts r h d = d
to_conjunction comparison levels ts r h d = one_comparison levels ts r d
to_conjunction operand levels ts r h d = one_comparison levels ts r (one_operand levels ts r d)

pub to_disjunction : (L : Strength) (levels : ℕ) (ts : List Placed) (r : Reading) → Reads L levels ts r → Reads disjunction levels ts r
to_disjunction disjunction levels ts r d = d
to_disjunction conjunction levels ts r d = one_conjunction levels ts r d
to_disjunction comparison levels ts r d = one_conjunction levels ts r (one_comparison levels ts r d)
to_disjunction operand levels ts r d = one_conjunction levels ts r (one_comparison levels ts r (one_operand levels ts r d))

-- The left side of an operator is a reading of its strength, or for a comparison an operand, after frames that bind less strongly.
abbrev pub LeftSide : Operator → ℕ → List Placed → Reading → Type 0
LeftSide Or levels ts l = Reads disjunction levels ts l
LeftSide And levels ts l = Reads conjunction levels ts l
LeftSide Equal levels ts l = Reads operand levels ts l
LeftSide NotEqual levels ts l = Reads operand levels ts l
LeftSide Less levels ts l = Reads operand levels ts l
LeftSide LessOrEqual levels ts l = Reads operand levels ts l
LeftSide Greater levels ts l = Reads operand levels ts l
LeftSide GreaterOrEqual levels ts l = Reads operand levels ts l

-- these tokens have opened these frames
pub data Opened : List Frame → List Placed → Type 0 where
  nothing : Opened [] []
  a_group : (fs : List Frame) (ps : List Placed) (at : ℕ) → depth_of fs < max_depth → Opened fs ps → Opened (machine.group ∷ fs) (ps ++ placed at Open ∷ [])
  a_negation : (fs : List Frame) (ps : List Placed) (at : ℕ) → depth_of fs < max_depth → Opened fs ps → Opened (machine.negation at ∷ fs) (ps ++ placed at Not ∷ [])
  a_left_side : (fs : List Frame) (ps ts : List Placed) (at levels : ℕ) (op : Operator) (l : Reading) → depth_of fs + levels ≡ max_depth → Loose (strength op) fs →
      LeftSide op levels ts l → Opened fs ps → Opened (left_side at op l ∷ fs) (ps ++ (ts ++ placed at (Operate op) ∷ []))

-- these tokens have opened these frames and then read a reading of this strength
pub record Has (L : Strength) (fs : List Frame) (r : Reading) (ps : List Placed) : Type 0 where
  pub before : List Placed
  pub ts : List Placed
  pub levels : ℕ
  pub all : ps ≡ before ++ ts
  pub depth : depth_of fs + levels ≡ max_depth
  pub loose : Loose (bound L) fs
  pub opened : Opened fs before
  pub reads : Reads L levels ts r

-- a frame is closed over an operand
pub record Higher (s : ℕ) (fs : List Frame) (r : Reading) (ps : List Placed) : Type 0 where
  pub level : Strength
  pub high : s ≤ bound level
  pub has : Has level fs r ps

operated_reads : (op : Operator) (L : Strength) (at levels : ℕ) (ts us : List Placed) (l r : Reading) → strength op < bound L → LeftSide op levels ts l → Reads L levels us r →
    (M : Strength) × (bound M ≡ strength op) × Reads M levels (ts ++ placed at (Operate op) ∷ us) (operated at op l r)
operated_reads Or L at levels ts us l r h d e = (disjunction, refl, either levels at ts us l r d (to_conjunction L levels us r (omega arith) e))
operated_reads And L at levels ts us l r h d e = (conjunction, refl, both levels at ts us l r d (to_comparison L levels us r (omega arith) e))
operated_reads Equal L at levels ts us l r h d e = (comparison, refl, compare levels at Equal ts us l r tt d (to_operand L levels us r (omega arith) e))
operated_reads NotEqual L at levels ts us l r h d e = (comparison, refl, compare levels at NotEqual ts us l r tt d (to_operand L levels us r (omega arith) e))
operated_reads Less L at levels ts us l r h d e = (comparison, refl, compare levels at Less ts us l r tt d (to_operand L levels us r (omega arith) e))
operated_reads LessOrEqual L at levels ts us l r h d e = (comparison, refl, compare levels at LessOrEqual ts us l r tt d (to_operand L levels us r (omega arith) e))
operated_reads Greater L at levels ts us l r h d e = (comparison, refl, compare levels at Greater ts us l r tt d (to_operand L levels us r (omega arith) e))
operated_reads GreaterOrEqual L at levels ts us l r h d e = (comparison, refl, compare levels at GreaterOrEqual ts us l r tt d (to_operand L levels us r (omega arith) e))

regrouped : (ps ts us : List Placed) (t : Placed) → (ps ++ (ts ++ t ∷ [])) ++ us ≡ ps ++ (ts ++ t ∷ us)
regrouped ps ts us t = append_assoc ps (ts ++ t ∷ []) us ∙ ap (λ x. ps ++ x) (append_assoc ts (t ∷ []) us)

close_negation : (L : Strength) (fs : List Frame) (at : ℕ) (r : Reading) (ps before ts : List Placed) (levels : ℕ) → Opened (machine.negation at ∷ fs) before → ps ≡ before ++ ts →
    suc (depth_of fs) + levels ≡ max_depth → 4 < bound L → Reads L levels ts r → Has operand fs (negated at r) ps
close_negation L fs at r ps _ ts levels (a_negation _ qs _ _ o) all depth loose d = record {
  before = qs;
  ts = placed at Not ∷ ts;
  levels = suc levels;
  all = all ∙ append_assoc qs (placed at Not ∷ []) ts;
  depth = omega arith;
  loose = Loose-any fs;
  opened = o;
  reads = negation levels at ts r (to_operand L levels ts r (omega arith) d);
}

close_left_side : (L : Strength) (fs : List Frame) (at : ℕ) (op : Operator) (l r : Reading) (ps before ts : List Placed) (levels : ℕ) → Opened (left_side at op l ∷ fs) before → ps ≡ before ++ ts →
    depth_of fs + levels ≡ max_depth → strength op < bound L → Reads L levels ts r → Higher (strength op) fs (operated at op l r) ps
close_left_side L fs at op l r ps _ us levels (a_left_side _ qs ts _ levels' _ _ depth' loose' left o) all depth loose d =
    let same : levels' ≡ levels = omega arith in
    let left' : LeftSide op levels ts l = subst (λ n. LeftSide op n ts l) same left in
    let (M, is, made) = operated_reads op L at levels ts us l r loose left' d in
    record {
      level = M;
      high = omega arith;
      has = record {
        before = qs;
        ts = ts ++ placed at (Operate op) ∷ us;
        levels = levels;
        all = all ∙ regrouped qs ts us (placed at (Operate op));
        depth = depth;
        loose = subst (λ n. Loose n fs) (sym is) loose';
        opened = o;
        reads = made;
      };
    }

close_frame : (L : Strength) (f : Frame) (fs : List Frame) (r : Reading) (ps : List Placed) → 0 < frame_strength f → Has L (f ∷ fs) r ps → Higher (frame_strength f) fs (closed f r) ps
close_frame L machine.group fs r ps h has = absurd (omega arith)
close_frame L (machine.negation at) fs r ps h has = record {
  level = operand;
  high = omega arith;
  has = close_negation L fs at r ps has.before has.ts has.levels has.opened has.all has.depth has.loose has.reads;
}
close_frame L (left_side at op l) fs r ps h has = close_left_side L fs at op l r ps has.before has.ts has.levels has.opened has.all has.depth has.loose has.reads

-- a group with its closing parenthesis is an operand
close_group : (L : Strength) (fs : List Frame) (r : Reading) (ps before ts : List Placed) (levels to : ℕ) → Opened (machine.group ∷ fs) before → ps ≡ before ++ ts →
    suc (depth_of fs) + levels ≡ max_depth → Reads L levels ts r → Has operand fs r (ps ++ placed to Close ∷ [])
close_group L fs r ps _ ts levels to (a_group _ qs at _ o) all depth d = record {
  before = qs;
  ts = placed at Open ∷ ts ++ placed to Close ∷ [];
  levels = suc levels;
  all = ap (λ x. x ++ placed to Close ∷ []) (all ∙ append_assoc qs (placed at Open ∷ []) ts) ∙ append_assoc qs (placed at Open ∷ ts) (placed to Close ∷ []);
  depth = omega arith;
  loose = Loose-any fs;
  opened = o;
  reads = group levels at to ts r (to_disjunction L levels ts r d);
}

pub close_group_of : (L : Strength) (fs : List Frame) (r : Reading) (ps : List Placed) (to : ℕ) → Has L (machine.group ∷ fs) r ps → Has operand fs r (ps ++ placed to Close ∷ [])
close_group_of L fs r ps to has = close_group L fs r ps has.before has.ts has.levels to has.opened has.all has.depth has.reads

-- what nothing is open before is a condition
ends : (L : Strength) (r : Reading) (ps before ts : List Placed) (levels : ℕ) → Opened [] before → ps ≡ before ++ ts → 0 + levels ≡ max_depth → Reads L levels ts r → IsConditionOf ps r
ends L r ps _ ts levels nothing all depth d =
    let all_levels : levels ≡ max_depth = omega arith in
    subst (λ x. Reads disjunction max_depth x r) (sym all) (subst (λ n. Reads disjunction n ts r) all_levels (to_disjunction L levels ts r d))

pub ends_of : (L : Strength) (r : Reading) (ps : List Placed) → Has L [] r ps → IsConditionOf ps r
ends_of L r ps has = ends L r ps has.before has.ts has.levels has.opened has.all has.depth has.reads

pub append-nil : (ps : List Placed) → ps ++ [] ≡ ps
append-nil [] = refl
append-nil (p ∷ ps) = ap (λ x. p ∷ x) (append-nil ps)

-- with what is open closed, a condition has come
pub completion : (fs : List Frame) (L : Strength) (r : Reading) (ps : List Placed) → Has L fs r ps → BeginsCondition ps
completion [] L r ps has = ([], r, subst (λ x. IsConditionOf x r) (sym (append-nil ps)) (ends_of L r ps has))
completion (machine.group ∷ fs) L r ps has =
    let (more, whole, is) = completion fs operand r (ps ++ placed 0 Close ∷ []) (close_group_of L fs r ps 0 has) in
    (placed 0 Close ∷ more, whole, subst (λ x. IsConditionOf x whole) (append_assoc ps (placed 0 Close ∷ []) more) is)
completion (machine.negation at ∷ fs) L r ps has =
    let up = close_frame L (machine.negation at) fs r ps (omega arith) has in
    completion fs up.level (negated at r) ps up.has
completion (left_side at op l ∷ fs) L r ps has =
    let up = close_frame L (left_side at op l) fs r ps (positive op) has in
    completion fs up.level (operated at op l r) ps up.has
  where
    positive : (op : Operator) → 0 < strength op
    positive Or = omega arith
    positive And = omega arith
    positive Equal = omega arith
    positive NotEqual = omega arith
    positive Less = omega arith
    positive LessOrEqual = omega arith
    positive Greater = omega arith
    positive GreaterOrEqual = omega arith

-- what was read, at a state
pub record Closed (s : ℕ) (fs : List Frame) (r : Reading) (ps : List Placed) : Type 0 where
  pub level : Strength
  pub high : s ≤ bound level
  pub outside : Loose s fs
  pub has : Has level fs r ps

abbrev pub IsClosed : ℕ → State → List Placed → Type 0
IsClosed s (awaiting fs) ps = ⊥
IsClosed s (complete fs r) ps = Closed s fs r ps

nat_le-fails : (a b : ℕ) → nat_le a b ≡ false → b < a
nat_le-fails a b h = grind (arith, nat_tests)

pub settled_reads : (s : ℕ) (fs : List Frame) (L : Strength) (r : Reading) (ps : List Placed) → 0 < s → s ≤ bound L → Has L fs r ps → IsClosed s (settled s fs r) ps
settled_reads s [] L r ps pos high has = record { level = L; high = high; outside = tt; has = has }
settled_reads s (f ∷ fs) L r ps pos high has = go (nat_le s (frame_strength f)) refl (settled_reads s fs)
  where
    go : (b : Bool) → nat_le s (frame_strength f) ≡ b →
        ((M : Strength) (u : Reading) (qs : List Placed) → 0 < s → s ≤ bound M → Has M fs u qs → IsClosed s (settled s fs u) qs) →
        IsClosed s (if b then settled s fs (closed f r) else complete (f ∷ fs) r) ps
    go true e more =
        let at_least = nat_le-holds s (frame_strength f) e in
        let up = close_frame L f fs r ps (omega arith) has in
        more up.level (closed f r) ps pos (omega (arith, up.high)) up.has
    go false e more = record { level = L; high = high; outside = nat_le-fails s (frame_strength f) e; has = has }
