-- What a thread begins with: the options of its run, and its first variables.
use Rattle.std.specs.Prelude.{ℕ, List, [], ◌∷◌, ◌++◌, length, replicate, slice_get, unwrap_or, codes}
use Rattle.std.specs.Option.{option_map}
use Rattle.jm_base.specs.Run.{over}
use Rattle.element_props.specs.declared.prop.Pair.{Pair}
use Rattle.element_tree.specs.declared.kinds.Element.{Element}
use Rattle.element_tree.specs.declared.kinds.Kind.{Kind}
use Rattle.element_tree.specs.declared.kinds.Kind.TheVariants.{UserVariables}
use Rattle.element_tree.specs.Tree.{Tree, threads_of}
use Rattle.var_functions.specs.declared.state.UserState.{UserState}
use Rattle.var_functions.specs.FunctionState.{first_functions}
use Rattle.config_elements.specs.RoundStart.{first_config}
pub use Rattle.sampler_pipeline.specs.SamplerPipeline.{last_sample_ok}
use Rattle.jm_meaning.specs.State.{State, Part, normal, and_then, tried, text, put}

-- the seed of the random words, the properties, and the sample budget of a thread
pub record Options : Type 0 where
  pub seed : ℕ
  pub props : List (List ℕ × List ℕ)
  pub budget : ℕ

-- a thread has at most this many rounds, over all loops and the group
abbrev pub max_rounds : ℕ
max_rounds = 16777216

-- the number of a thread in its group, from 1
abbrev pub number_in_group : Tree → ℕ → ℕ
number_in_group plan thread = unwrap_or (option_map (λ t. t.number) (slice_get (threads_of plan) thread)) 0

-- each Interleave Controller begins at its first child
abbrev pub first_places : List Element → List ℕ
first_places elements = replicate (length elements) 0

-- no variable is set, and no function was called
abbrev pub first_user : Tree → ℕ → ℕ → List (List ℕ × List ℕ) → UserState
first_user plan thread seed props = record { vars = []; fns = first_functions props (number_in_group plan thread) thread seed }

-- before anything is set
abbrev pub first_of : Tree → ℕ → Options → State
first_of plan thread options = record {
  user = first_user plan thread options.seed options.props;
  own = record { units = options.budget; rounds = max_rounds; places = first_places plan.elements; config = first_config plan.elements };
}

abbrev pub pairs_of : Kind → List Pair
pairs_of (UserVariables vars) = vars
pairs_of kind = []

-- all user defined variables of a plan, wherever they stand, in tree order
abbrev pub user_variables : List Element → List Pair
user_variables [] = []
user_variables (e ∷ es) = pairs_of e.kind ++ user_variables es

-- each value is expanded when its turn comes, and a later one of the same name wins
abbrev pub set_all : List Pair → Part
set_all [] s = over (normal s)
set_all (p ∷ ps) s = and_then (tried (text p.value) s (put p.name)) (set_all ps)

-- the user defined variables, and then that the last sample succeeded
abbrev pub set_first : List Element → Part
set_first elements s = and_then (set_all (user_variables elements) s) (put last_sample_ok (codes "true"))
