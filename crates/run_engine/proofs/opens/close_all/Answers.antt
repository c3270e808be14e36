use Rattle.std.proofs.Common.{rules, arith, ◌≡◌, ◌+◌, ◌-◌, ◌++◌, ◌∙◌, ◌∷◌, [], length, map, refl, ap, subst, sym, append_assoc, List, ℕ, ◌<◌, slice_index_or, Some}
use Rattle.std.specs.Vec.Iter.{into_iter_items}
use Rattle.std.proofs.lemmas.List.{append-nil, get_or_default}
use Rattle.run_engine.specs.declared.job.Job.{Job}
use Rattle.run_engine.specs.Joins.{number_of}
use Rattle.run_engine.proofs.Opening.{numbers_opened, origin_opened}
use Rattle.run_engine.proofs.Seqs.{first_each, rest_each, none_left, up_to_next}
use Rattle.run_engine.proofs.opens.close_all.Goals as goal

pub loop-job-preserved : goal.loop-job-preserved
loop-job-preserved g c =
    let inv = c.loop-job.invariant in
    let step = c.in-Some.ensures.steps.0 in
    let job = c.in-Some.job in
    let rest = into_iter_items c.next.new.self in
    let identity = g.W.World.identity c.args.world.now in
    let account = g.W.Out.Outside.account in
    let all = c.args.jobs.items in
    let n = length all - length (into_iter_items c.loop-job.job-iterator) in
    let few = inv.few in let fewer = ap length step in
    let next : length all - length rest ≡ n + 1 = omega arith in
    let Same : ℕ → Job _ → Type 0 = λ k j. (e : Job _) → j ≡ slice_index_or all k e in
    let here : Same n job = first_each Same n _ rest job step (λ i d low e. inv.same i d e low) in
    let later : (i : ℕ) (d : Job _) → i < length rest → Same (n + 1 + i) (slice_index_or rest i d) = rest_each Same n _ rest job step (λ i d low e. inv.same i d e low) in
    let number : job.number ≡ n = ap (λ (j : Job _). j.number) (here job) ∙ (c.requires.opened n job (omega arith)).0 in
    let told = g.W.World.told c.close.new.self in
    record {
      left = rest_each (λ (_ : ℕ) (j : Job _). (g.W.Out.Outside.account j.out).origin ≡ Some (identity, j.number)) 0 _ _ _ step inv.left;
      closed = ap (λ (l : List ℕ). l ++ map number_of rest) c.close.ensures.closed
          ∙ append_assoc (g.W.World.closed c.loop-job.world) (job.number ∷ []) (map number_of rest)
          ∙ ap (λ (xs : List (Job _)). g.W.World.closed c.loop-job.world ++ map number_of xs) (sym step)
          ∙ inv.closed;
      identity = c.close.ensures.same.0 ∙ inv.identity;
      tells = c.close.ensures.same.1 ∙ inv.tells;
      opened = c.close.ensures.same.2 ∙ inv.opened;
      few = omega arith;
      same = λ i d e low. subst (λ (k : ℕ). slice_index_or rest i d ≡ slice_index_or all (k + i) e) (sym next) (later i d low e);
      told = λ i low d.
          up_to_next (λ (k : ℕ). told k ≡ (account (slice_index_or all k d).out).told) n
          (λ k before. c.close.ensures.others k (λ is. absurd (omega arith)) ∙ inv.told k before d)
          (ap told (sym number) ∙ c.close.ensures.told ∙ ap (λ (j : Job _). (account j.out).told) (here d)) i (omega arith);
    }

pub loop-job-init : goal.loop-job-init
loop-job-init g c =
    let items : into_iter_items c.into_iter-job-iterator.result ≡ c.args.jobs.items = search rules in
    let account = g.W.Out.Outside.account in
    let identity = g.W.World.identity c.args.world.now in
    record {
      left = subst (λ (xs : List (Job _)). (i : ℕ) (d : Job _) → i < length xs → (account (slice_index_or xs i d).out).origin ≡ Some (identity, (slice_index_or xs i d).number)) (sym items)
          (origin_opened account identity c.args.jobs.items c.requires.opened);
      closed = ap (λ (xs : List (Job _)). g.W.World.closed c.args.world.now ++ map number_of xs) items;
      identity = refl;
      tells = refl;
      opened = refl;
      few = (let many = ap length items in omega arith);
      same = λ i d e low.
          let many = ap length items in
          let at : i ≡ length c.args.jobs.items - length (into_iter_items c.into_iter-job-iterator.result) + i = omega arith in
          ap (λ (xs : List (Job _)). slice_index_or xs i d) items ∙ get_or_default c.args.jobs.items i d e (omega arith) ∙ ap (λ (k : ℕ). slice_index_or c.args.jobs.items k e) at;
      told = λ i low d. (let many = ap length items in absurd (omega arith));
    }

pub returns-clause-closed : goal.returns-clause-closed
returns-clause-closed g c =
    let zero : length (into_iter_items c.loop-job.job-iterator) ≡ 0 = search rules in let none : into_iter_items c.loop-job.job-iterator ≡ [] = none_left (into_iter_items c.loop-job.job-iterator) zero in
    sym (append-nil (g.W.World.closed c.loop-job.world)) ∙ ap (λ (xs : List (Job _)). g.W.World.closed c.loop-job.world ++ map number_of xs) (sym none) ∙ c.loop-job.invariant.closed
    ∙ ap (λ (l : List ℕ). g.W.World.closed c.args.world.now ++ l) (numbers_opened g.W.Out.Outside.account (g.W.World.identity c.args.world.now) c.args.jobs.items c.requires.opened)

pub returns-clause-told : goal.returns-clause-told
returns-clause-told g c =
    let zero : length (into_iter_items c.loop-job.job-iterator) ≡ 0 = search rules in
    λ i d low. c.loop-job.invariant.told i (omega arith) d
