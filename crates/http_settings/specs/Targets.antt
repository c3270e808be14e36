-- The target of an HTTP sampler's settings, as a function: `IsTarget` and `IsBadTarget` say the same of one target and of none.
use Rattle.std.specs.Prelude.{ℕ, ◌&&◌, nat_lt, nat_le, length, Option, Some, None, Result, Ok, Err, if◌then◌else◌}
use Rattle.std.specs.List.{list_all}
use Rattle.std.specs.Option.{option_and_then}
use Rattle.std.specs.Str.{is_utf8}
use Rattle.url.specs.Parser.{parse_url}
use Rattle.url.specs.Parts.{Parts, host_or_empty}
use Rattle.url.specs.Host.{host_text}
use Rattle.url.specs.declared.error.ParseError.{ParseError}
use Rattle.jm_base.specs.declared.types.Request.{Request}
use Rattle.jm_base.specs.declared.types.Request.TheVariants.{Http}
use Rattle.http_text.specs.RequestText.{is_valid_field, port_of, text_at, request_text, request_limit}
use Rattle.http_text.specs.declared.request.HttpSettings.{HttpSettings}
use Rattle.http_text.specs.declared.request.Target.{Target}

-- the target of a URL that is read, unless the request would be too long
abbrev pub target_with : HttpSettings → ℕ → Result Parts ParseError → Option Target
target_with s port (Err e) = None
target_with s port (Ok url) =
    if nat_le (length (request_text s port url)) request_limit
    then Some (record { host = host_text (host_or_empty url); port = port; bytes = request_text s port url }) else None

-- the target at a port
abbrev pub target_at : HttpSettings → ℕ → Option Target
target_at s port = if is_utf8 (text_at s port) then target_with s port (parse_url None (text_at s port)) else None

-- The target of settings, if they have one: there is a host, each header field can be sent, and there is a port's number.
unfoldable pub target_of : HttpSettings → Option Target
target_of s = if nat_lt 0 (length s.host) && list_all is_valid_field s.headers then option_and_then (target_at s) (port_of s.port) else None

-- the request of a target
abbrev pub http_request : Target → Request
http_request t = Http t.host t.port t.bytes
