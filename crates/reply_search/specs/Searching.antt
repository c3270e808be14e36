-- What searches for a regular expression.
use Rattle.std.specs.Prelude.{◌≡◌, length}
use Rattle.regex.specs.Strings.{regex_pattern, regex_names, matcher_pattern}
use Rattle.regex.specs.Locations.{location_count}
use Rattle.regex.specs.declared.string.regex.Regex.{Regex}
use Rattle.regex.specs.declared.string.matcher.Matcher.{Matcher}
use Rattle.regex.specs.declared.locations.CaptureLocations.{CaptureLocations}
use Rattle.element_props.specs.Patterns.{IsKept}

-- a matcher of a regular expression, with room for all its groups
pub record SearchesFor (regex : Regex) (matcher : Matcher) (locations : CaptureLocations) : Type 0 where
  pub kept : IsKept regex
  pub pattern : matcher_pattern matcher ≡ regex_pattern regex
  pub groups : location_count locations ≡ length (regex_names regex)
