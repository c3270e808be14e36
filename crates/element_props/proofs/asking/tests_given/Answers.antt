use Rattle.std.proofs.Common.{sym, ap, ◌∙◌, option_map, map, Vec, Bor, List, ℕ, Global}
use Rattle.element_props.proofs.ReadsLaws.{no_tests, some_tests}
use Rattle.element_props.proofs.asking.tests_given.Goals as goal

pub returns-in-Some : goal.returns-in-Some
returns-in-Some g c =
    some_tests _ _ _ _ _ _ _ _ _ _ c.is_test-regex.ensures c.is_test-fully.ensures (ap (map (λ (s : Bor (List ℕ)). s.now)) c.deref.ensures.value)
    (sym c.in_ok-strings.ensures ∙ ap (option_map (λ (v : Vec (Bor (List ℕ)) Global). map (λ (s : Bor (List ℕ)). s.now) v.items)) c.in-Some.is) c.tests_prop.ensures

pub returns-in_ok-prop_path-in-None : goal.returns-in_ok-prop_path-in-None
returns-in_ok-prop_path-in-None g c =
    rw (c.in_ok-prop_path-in-None.ensures) (no_tests _ _ _ _ (sym c.in_ok-strings.ensures ∙ ap (option_map (λ (v : Vec (Bor (List ℕ)) Global). map (λ (s : Bor (List ℕ)). s.now) v.items)) c.in-None.is))
