-- What is left of the settings of a sampler after each of their parts.
use Rattle.std.proofs.Common.{ℕ, List}
use Rattle.element_tree.specs.declared.kinds.Element.{Element}
use Rattle.http_text.specs.declared.request.NamedText.{NamedText}
use Rattle.http_text.specs.declared.request.HttpSettings.{HttpSettings}
use Rattle.trials.specs.Tried.{Try, giving, ◌>=>◌}
use Rattle.http_settings.specs.declared.request.Address.{Address}
use Rattle.http_settings.specs.declared.request.Content.{Content}
use Rattle.http_settings.specs.RequestSettings.{content, texts_of, merged_headers, settings_of, method_at}

abbrev pub after_headers : List Element → ℕ → Address → Content → List NamedText → Try HttpSettings
after_headers es n a c headers = giving (settings_of (method_at es n) a c headers)

abbrev pub after_content : List Element → List ℕ → ℕ → Address → Content → Try HttpSettings
after_content es cs n a c = texts_of (merged_headers es cs) >=> after_headers es n a c

abbrev pub after_address : List Element → List ℕ → ℕ → Address → Try HttpSettings
after_address es cs n a = content es cs n >=> after_content es cs n a
