-- What the rows of each type are like.
use Rattle.std.proofs.Common.{◌≡◌, ℕ, refl, true≢false}
use Rattle.element_props.specs.Again.{AreRows}
use Rattle.element_tree.specs.declared.types.ElementType.{ElementType}
use Rattle.element_tree.specs.declared.types.ElementType.TheVariants as types
use Rattle.element_tree.specs.Table.{rows, type_name, type_of_name}
use Rattle.element_tree.proofs.FitsLaws.{DefaultsFit}
use Rattle.std.specs.Prelude.{Some}

-- what stands for an absent property has the property's form
pub defaults_fit : (version : ℕ) (t : ElementType) → DefaultsFit (rows version t)
defaults_fit version types.TestPlan = (λ h. refl, tt)
defaults_fit version types.ThreadGroup = (λ h. refl, (λ h. refl, (λ h. refl, (λ h. refl, tt))))
defaults_fit version types.Simple = tt
defaults_fit version types.OnceOnly = tt
defaults_fit version types.Interleave = tt
defaults_fit version types.Random = tt
defaults_fit version types.RandomOrder = tt
defaults_fit version types.Transaction = tt
defaults_fit version types.Loop = (λ h. tt, tt)
defaults_fit version types.If = (λ h. tt, (λ h. absurd (true≢false h), tt))
defaults_fit version types.While = (λ h. tt, tt)
defaults_fit version types.Switch = (λ h. tt, tt)
defaults_fit version types.ForEach = (λ h. refl, (λ h. absurd (true≢false h), (λ h. absurd (true≢false h), (λ h. tt, (λ h. refl, tt)))))
defaults_fit version types.CriticalSection = (λ h. absurd (true≢false h), tt)
defaults_fit version types.Script = (λ h. absurd (true≢false h), (λ h. tt, tt))
defaults_fit version types.Http = (λ h. tt, (λ h. tt, (λ h. refl, (λ h. tt, (λ h. tt, (λ h. tt, (λ h. refl, tt)))))))
defaults_fit version types.UserVariables = (λ h. absurd (true≢false h), tt)
defaults_fit version types.HttpDefaults = (λ h. tt, (λ h. tt, (λ h. tt, tt)))
defaults_fit version types.HeaderManager = (λ h. absurd (true≢false h), tt)
defaults_fit version types.Counter = (λ h. refl, (λ h. refl, (λ h. refl, (λ h. absurd (true≢false h), tt))))
defaults_fit version types.DataSet = (λ h. refl, (λ h. absurd (true≢false h), (λ h. absurd (true≢false h), (λ h. absurd (true≢false h), tt))))
defaults_fit version types.UserParameters = (λ h. absurd (true≢false h), tt)
defaults_fit version types.ConstantTimer = (λ h. tt, tt)
defaults_fit version types.UniformTimer = (λ h. tt, (λ h. tt, tt))
defaults_fit version types.RegexExtractor = (λ h. refl, (λ h. refl, (λ h. refl, (λ h. absurd (true≢false h), (λ h. absurd (true≢false h), (λ h. refl, tt))))))
defaults_fit version types.JsonExtractor = (λ h. refl, (λ h. refl, (λ h. absurd (true≢false h), (λ h. absurd (true≢false h), tt))))
defaults_fit version types.BoundaryExtractor = (λ h. refl, (λ h. refl, (λ h. absurd (true≢false h), (λ h. refl, (λ h. absurd (true≢false h), (λ h. absurd (true≢false h), tt))))))
defaults_fit version types.ResponseAssertion = (λ h. refl, (λ h. tt, (λ h. tt, (λ h. tt, (λ h. absurd (true≢false h), (λ h. absurd (true≢false h), tt))))))
defaults_fit version types.DurationAssertion = (λ h. absurd (true≢false h), tt)
defaults_fit version types.SizeAssertion = (λ h. absurd (true≢false h), (λ h. absurd (true≢false h), tt))
defaults_fit version types.Listener = tt

-- a type's name names it
pub name_again : (t : ElementType) → type_of_name (type_name t) ≡ Some t
name_again types.TestPlan = refl
name_again types.ThreadGroup = refl
name_again types.Simple = refl
name_again types.OnceOnly = refl
name_again types.Interleave = refl
name_again types.Random = refl
name_again types.RandomOrder = refl
name_again types.Transaction = refl
name_again types.Loop = refl
name_again types.If = refl
name_again types.While = refl
name_again types.Switch = refl
name_again types.ForEach = refl
name_again types.CriticalSection = refl
name_again types.Script = refl
name_again types.Http = refl
name_again types.UserVariables = refl
name_again types.HttpDefaults = refl
name_again types.HeaderManager = refl
name_again types.Counter = refl
name_again types.DataSet = refl
name_again types.UserParameters = refl
name_again types.ConstantTimer = refl
name_again types.UniformTimer = refl
name_again types.RegexExtractor = refl
name_again types.JsonExtractor = refl
name_again types.BoundaryExtractor = refl
name_again types.ResponseAssertion = refl
name_again types.DurationAssertion = refl
name_again types.SizeAssertion = refl
name_again types.Listener = refl

-- each version has the same rows
pub rows_same : (v w : ℕ) (t : ElementType) → rows v t ≡ rows w t
rows_same v w types.TestPlan = refl
rows_same v w types.ThreadGroup = refl
rows_same v w types.Simple = refl
rows_same v w types.OnceOnly = refl
rows_same v w types.Interleave = refl
rows_same v w types.Random = refl
rows_same v w types.RandomOrder = refl
rows_same v w types.Transaction = refl
rows_same v w types.Loop = refl
rows_same v w types.If = refl
rows_same v w types.While = refl
rows_same v w types.Switch = refl
rows_same v w types.ForEach = refl
rows_same v w types.CriticalSection = refl
rows_same v w types.Script = refl
rows_same v w types.Http = refl
rows_same v w types.UserVariables = refl
rows_same v w types.HttpDefaults = refl
rows_same v w types.HeaderManager = refl
rows_same v w types.Counter = refl
rows_same v w types.DataSet = refl
rows_same v w types.UserParameters = refl
rows_same v w types.ConstantTimer = refl
rows_same v w types.UniformTimer = refl
rows_same v w types.RegexExtractor = refl
rows_same v w types.JsonExtractor = refl
rows_same v w types.BoundaryExtractor = refl
rows_same v w types.ResponseAssertion = refl
rows_same v w types.DurationAssertion = refl
rows_same v w types.SizeAssertion = refl
rows_same v w types.Listener = refl

-- in each table the names are apart, and what a form looks at stands there with its form and default
pub rows_stand : (v : ℕ) (t : ElementType) → AreRows (rows v t)
rows_stand v types.TestPlan = record { apart = refl; stand = (refl, tt) }
rows_stand v types.ThreadGroup = record { apart = refl; stand = (refl, (tt, (refl, (refl, tt)))) }
rows_stand v types.Simple = record { apart = refl; stand = tt }
rows_stand v types.OnceOnly = record { apart = refl; stand = tt }
rows_stand v types.Interleave = record { apart = refl; stand = tt }
rows_stand v types.Random = record { apart = refl; stand = tt }
rows_stand v types.RandomOrder = record { apart = refl; stand = tt }
rows_stand v types.Transaction = record { apart = refl; stand = tt }
rows_stand v types.Loop = record { apart = refl; stand = (tt, tt) }
rows_stand v types.If = record { apart = refl; stand = (tt, (tt, tt)) }
rows_stand v types.While = record { apart = refl; stand = (tt, tt) }
rows_stand v types.Switch = record { apart = refl; stand = (tt, tt) }
rows_stand v types.ForEach = record { apart = refl; stand = (refl, (tt, (tt, (tt, (refl, tt))))) }
rows_stand v types.CriticalSection = record { apart = refl; stand = (tt, tt) }
rows_stand v types.Script = record { apart = refl; stand = (tt, (tt, tt)) }
rows_stand v types.Http = record { apart = refl; stand = (tt, (tt, (tt, (tt, (tt, (tt, (tt, tt))))))) }
rows_stand v types.UserVariables = record { apart = refl; stand = (tt, tt) }
rows_stand v types.HttpDefaults = record { apart = refl; stand = (tt, (tt, (tt, tt))) }
rows_stand v types.HeaderManager = record { apart = refl; stand = (tt, tt) }
rows_stand v types.Counter = record { apart = refl; stand = (refl, (refl, (refl, (tt, tt)))) }
rows_stand v types.DataSet = record { apart = refl; stand = (tt, (tt, (tt, (refl, tt)))) }
rows_stand v types.UserParameters = record { apart = refl; stand = (tt, tt) }
rows_stand v types.ConstantTimer = record { apart = refl; stand = (tt, tt) }
rows_stand v types.UniformTimer = record { apart = refl; stand = (tt, (tt, tt)) }
rows_stand v types.RegexExtractor = record { apart = refl; stand = (tt, (tt, (refl, (tt, (tt, (tt, tt)))))) }
rows_stand v types.JsonExtractor = record { apart = refl; stand = (tt, (refl, (tt, (tt, tt)))) }
rows_stand v types.BoundaryExtractor = record { apart = refl; stand = (tt, (tt, (tt, (refl, (tt, (tt, tt)))))) }
rows_stand v types.ResponseAssertion = record { apart = refl; stand = (tt, (tt, (tt, (tt, (refl, (tt, tt)))))) }
rows_stand v types.DurationAssertion = record { apart = refl; stand = (refl, tt) }
rows_stand v types.SizeAssertion = record { apart = refl; stand = (tt, (refl, tt)) }
rows_stand v types.Listener = record { apart = refl; stand = tt }
