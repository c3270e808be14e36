-- How a turn lightens the load of a machine.
use Rattle.std.proofs.Common.{◌≡◌, ℕ, suc, ◌+◌, ◌*◌, ◌≤◌, ◌<◌, List, [], ◌∷◌, refl, sym, ap, ◌∙◌, subst, arith}
use Rattle.element_tree.specs.declared.kinds.Element.{Element}
use Rattle.element_tree.specs.declared.package.Turn.{Turn}
use Rattle.element_tree.specs.declared.package.Turn.TheVariants.{Child}
use Rattle.open_elements.specs.ChildrenLeft.{remaining, children_left}
use Rattle.control_machine.specs.declared.stack.Frame.{Frame}
use Rattle.control_machine.specs.declared.position.Position.{Position}
use Rattle.control_machine.specs.declared.position.Went.{Went}
use Rattle.control_machine.specs.declared.position.Went.TheVariants.{On, To}
use Rattle.control_machine.specs.Load.{children_count, scale, load, load_of}
use Rattle.cursor_steps.specs.RunningChildren.{TakesChild}
use Rattle.control_machine.specs.Turns.{Lightens, IsOpened, load_in}
use Rattle.control_machine.proofs.LoadLaws.{left_light, child_light, plain_light, round_light, group_light}

-- a move ends the search
lightens : (w : Went) (old new : ℕ) → new < old → Lightens w old new
lightens On old new h = h
lightens (To move) old new h = tt

-- the load that the group's round and the rounds left have
abbrev rest_load : List Element → Position → ℕ
rest_load elements m = (remaining m.group.pass + m.rounds) * scale (children_count elements) 31

-- an element is left
pub over_lighter : (elements : List Element) (m : Position) (old : Frame) → load_of elements m < load_in elements m (old ∷ m.stack.frames)
over_lighter elements m old = let l = left_light (children_count elements) old m.stack.frames in omega (arith, l)

-- a round begins
pub round_lighter : (elements : List Element) (m m' : Position) (old f : Frame) → children_left f.cursor ≤ children_count elements → f.depth ≤ 29 → m'.stack.frames ≡ f ∷ m.stack.frames
    → m'.group ≡ m.group → m.rounds ≡ suc m'.rounds → load_of elements m' < load_in elements m (old ∷ m.stack.frames)
round_lighter elements m m' old f few deep frames group rounds =
    subst (λ fs. load (children_count elements) fs + (remaining m'.group.pass + m'.rounds) * scale (children_count elements) 31 < load_in elements m (old ∷ m.stack.frames)) (sym frames)
    (subst (λ g. load (children_count elements) (f ∷ m.stack.frames) + (remaining g.pass + m'.rounds) * scale (children_count elements) 31 < load_in elements m (old ∷ m.stack.frames)) (sym group)
    (round_light (children_count elements) (remaining m.group.pass) m'.rounds m.rounds old f m.stack.frames few deep rounds))

-- a child is taken from a pass
one_fewer : (old new : ℕ) (turn : Turn) (place : ℕ) → turn ≡ Child place → TakesChild old new turn → new < old
one_fewer old new turn place is takes = subst (TakesChild old new) is takes

same_total : (elements : List Element) (m m' : Position) (fs : List Frame) → m'.group ≡ m.group → m'.rounds ≡ m.rounds → load (children_count elements) m'.stack.frames < load (children_count elements) fs
    → load_of elements m' < load_in elements m fs
same_total elements m m' fs group rounds less =
    let r : rest_load elements m' ≡ rest_load elements m =
    ap (λ g. (remaining g.pass + m'.rounds) * scale (children_count elements) 31) group ∙ ap (λ n. (remaining m.group.pass + n) * scale (children_count elements) 31) rounds in
    omega (arith, r, less)

pub child_lighter : (elements : List Element) (m m' : Position) (old f : Frame) (turn : Turn) (place : ℕ) (between : List Frame) (w : Went) → turn ≡ Child place → 1 ≤ f.depth → old.depth ≡ f.depth
    → TakesChild (children_left old.cursor) (children_left f.cursor) turn → between ≡ f ∷ m.stack.frames → IsOpened elements f.depth between m'.stack.frames → m'.group ≡ m.group → m'.rounds ≡ m.rounds
    → Lightens w (load_in elements m (old ∷ m.stack.frames)) (load_of elements m')
child_lighter elements m m' old f turn place between w is some depth takes at opened group rounds =
    lightens w _ _ (same_total elements m m' (old ∷ m.stack.frames) group rounds
    (child_light elements f.depth old f m.stack.frames m'.stack.frames some depth refl (one_fewer (children_left old.cursor) (children_left f.cursor) turn place is takes) (subst (λ fs. IsOpened elements f.depth fs m'.stack.frames) at opened)))

pub none_lighter : (elements : List Element) (m m' : Position) (old f : Frame) (turn : Turn) (place : ℕ) → turn ≡ Child place → old.depth ≡ f.depth
    → TakesChild (children_left old.cursor) (children_left f.cursor) turn → m'.stack.frames ≡ f ∷ m.stack.frames → m'.group ≡ m.group → m'.rounds ≡ m.rounds
    → load_of elements m' < load_in elements m (old ∷ m.stack.frames)
none_lighter elements m m' old f turn place is depth takes frames group rounds =
    same_total elements m m' (old ∷ m.stack.frames) group rounds
    (plain_light elements old f m.stack.frames m'.stack.frames depth (one_fewer (children_left old.cursor) (children_left f.cursor) turn place is takes) frames)

-- the group's child
pub group_lighter : (elements : List Element) (m m' : Position) (w : Went) → m.stack.frames ≡ [] → remaining m'.group.pass < remaining m.group.pass → m'.rounds ≡ m.rounds → IsOpened elements 30 [] m'.stack.frames
    → Lightens w (load_of elements m) (load_of elements m')
group_lighter elements m m' w empty less rounds opened =
    lightens w _ _ (let l = group_light elements (remaining m.group.pass) (remaining m'.group.pass) m.rounds m'.stack.frames less opened in
    let e = ap (load (children_count elements)) empty in
    let r = ap (λ n. (remaining m'.group.pass + n) * scale (children_count elements) 31) rounds in
    omega (arith, l, e, r))

-- on a way out
pub popped_light : (elements : List Element) (m m' : Position) (f : Frame) → m.stack.frames ≡ f ∷ m'.stack.frames → m'.group ≡ m.group → m'.rounds ≡ m.rounds → load_of elements m' < load_of elements m
popped_light elements m m' f frames group rounds =
    let l = left_light (children_count elements) f m'.stack.frames in
    let e = ap (load (children_count elements)) frames in
    same_total elements m m' m.stack.frames group rounds (omega (arith, l, e))
