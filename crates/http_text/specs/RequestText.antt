-- The bytes of a request (RFC 9112, sections 3 and 6), and the settings that have none.
use Rattle.std.specs.Prelude.{◌≡◌, ◌≢◌, ◌⊎◌, ℕ, ◌+◌, ◌<◌, ◌≤◌, ◌==◌, Bool, true, false, ◌&&◌, ◌||◌, not, nat_lt, nat_le, List, [], ◌∷◌, ◌++◌, length, map, filter, Option, Some, None, Result, Ok, Err, if◌then◌else◌, codes, decimal, IsUtf8, IsTrue, All}
use Rattle.std.specs.List.{flat_map, list_all, list_any}
use Rattle.std.specs.Char.{is_ascii_digit}
use Rattle.std.specs.Str.{str_eq_ignore_ascii_case}
use Rattle.std.specs.Str.Parse.{digits_value}
use Rattle.form_urlencoded.specs.Form.{extend_pairs}
use Rattle.httparse.specs.Grammar.{is_token}
use Rattle.url.specs.Parser.{parse_url}
use Rattle.url.specs.Parts.{Parts, host_or_empty}
use Rattle.url.specs.Host.{host_text}
use Rattle.url.specs.declared.error.ParseError.{ParseError}
use Rattle.jm_base.specs.declared.types.Method.{Method}
use Rattle.jm_base.specs.declared.types.Method.TheVariants.{Get, Post, Put, Delete, Head}
use Rattle.http_lines.specs.HeaderFields.{length_value}
use Rattle.http_text.specs.declared.request.NamedText.{NamedText}
use Rattle.http_text.specs.declared.request.HttpSettings.{HttpSettings}
use Rattle.http_text.specs.declared.request.Target.{Target}

-- a method as it is written
abbrev pub method_text : Method → List ℕ
method_text Get = codes "GET"
method_text Post = codes "POST"
method_text Put = codes "PUT"
method_text Delete = codes "DELETE"
method_text Head = codes "HEAD"

-- the parameters of these methods are sent as the body, those of the others after the path
abbrev pub sends_form : Method → Bool
sends_form Post = true
sends_form Put = true
sends_form Get = false
sends_form Delete = false
sends_form Head = false

-- a port's number is 1 to 65,535
abbrev pub port_in : Option ℕ → Option ℕ
port_in None = None
port_in (Some n) = if nat_le 1 n && nat_le n 65535 then Some n else None

-- the port of 1 to 5 digits; 80 where there is no text
abbrev pub port_of : List ℕ → Option ℕ
port_of text = if length text == 0 then Some 80 else if nat_le (length text) 5 then port_in (length_value text) else None

-- a path with a slash before it, where it does not begin with one
abbrev pub slashed : List ℕ → List ℕ
slashed [] = codes "/"
slashed (b ∷ bytes) = if b == 47 then b ∷ bytes else codes "/" ++ (b ∷ bytes)

-- a parameter as `form_urlencoded` takes it
abbrev pub pair_of : NamedText → List ℕ × List ℕ
pair_of f = (f.name, f.value)

-- the parameters as `form_urlencoded` serializes them
abbrev pub form_of : HttpSettings → List ℕ
form_of s = extend_pairs [] (map pair_of s.params)

-- there are parameters
abbrev pub has_params : HttpSettings → Bool
has_params s = nat_lt 0 (length s.params)

-- what parts a path and the parameters after it: `?`, or `&` where the path has a `?`
abbrev pub query_mark : List ℕ → List ℕ
query_mark path = if list_any (λ b. b == 63) path then codes "&" else codes "?"

-- the path that is asked for, with the parameters after it unless they are the body
abbrev pub asked_path : HttpSettings → List ℕ
asked_path s = if has_params s && not (sends_form s.method) then slashed s.path ++ query_mark s.path ++ form_of s else slashed s.path

-- http://HOST:PORT and the path
abbrev pub url_text : List ℕ → ℕ → List ℕ → List ℕ
url_text host port path = codes "http://" ++ host ++ codes ":" ++ decimal port ++ path

-- the body is the parameters
abbrev pub is_form : HttpSettings → Bool
is_form s = has_params s && sends_form s.method

-- the body: the parameters, or else the text of the settings
abbrev pub body_of : HttpSettings → List ℕ
body_of s = if is_form s then form_of s else s.body

-- a `?` and the query, where there is one
abbrev pub query_text : Option (List ℕ) → List ℕ
query_text None = []
query_text (Some query) = codes "?" ++ query

-- header fields that are not sent: the request has lines of its own for them, or its body has no coding
abbrev pub is_left_out : NamedText → Bool
is_left_out f =
    str_eq_ignore_ascii_case f.name (codes "host") || (str_eq_ignore_ascii_case f.name (codes "connection")
    || (str_eq_ignore_ascii_case f.name (codes "content-length") || str_eq_ignore_ascii_case f.name (codes "transfer-encoding")))

-- Name: value
abbrev pub header_line : NamedText → List ℕ
header_line f = f.name ++ codes ": " ++ f.value ++ codes "\r\n"

-- a content type was set
abbrev pub has_type : HttpSettings → Bool
has_type s = list_any (λ f. str_eq_ignore_ascii_case f.name (codes "content-type")) s.headers

-- CR, LF or NUL
abbrev pub breaks_line : ℕ → Bool
breaks_line b = b == 13 || (b == 10 || b == 0)

-- a field's name is a token, and its value has no CR, LF or NUL
abbrev pub is_valid_field : NamedText → Bool
is_valid_field f = is_token f.name && not (list_any breaks_line f.value)

-- a colon and the port, where it is not 80
abbrev pub port_text : ℕ → List ℕ
port_text port = if port == 80 then [] else codes ":" ++ decimal port

-- the type of a body that is the parameters, where none was set
abbrev pub type_line : HttpSettings → List ℕ
type_line s = if is_form s && not (has_type s) then codes "Content-Type: application/x-www-form-urlencoded\r\n" else []

-- the length of the body: always with POST and PUT, else where there is a body
abbrev pub length_line : Method → ℕ → List ℕ
length_line method size =
    if not (sends_form method) && (size == 0) then [] else codes "Content-Length: " ++ decimal size ++ codes "\r\n"

-- the path and the query
abbrev pub target_text : Parts → List ℕ
target_text url = url.path ++ query_text url.query

-- METHOD TARGET HTTP/1.1
abbrev pub start_line : Method → Parts → List ℕ
start_line method url = method_text method ++ codes " " ++ target_text url ++ codes " HTTP/1.1\r\n"

-- Host: HOST:PORT, the host as the URL has it
abbrev pub host_line : ℕ → Parts → List ℕ
host_line port url = codes "Host: " ++ host_text (host_or_empty url) ++ port_text port ++ codes "\r\n"

-- the header fields that are sent, as they come, a line each
abbrev pub header_lines : List NamedText → List ℕ
header_lines fields = flat_map header_line (filter (λ f. not (is_left_out f)) fields)

-- the last lines of the head
abbrev pub head_end : HttpSettings → List ℕ
head_end s = type_line s ++ length_line s.method (length (body_of s)) ++ codes "\r\n"

-- the bytes of the request
abbrev pub request_text : HttpSettings → ℕ → Parts → List ℕ
request_text s port url =
    start_line s.method url ++ host_line port url ++ codes "Connection: close\r\n" ++ header_lines s.headers ++ head_end s ++ body_of s

-- the URL Standard's parser reads this URL from the text
abbrev pub HasUrl : List ℕ → Parts → Type 0
HasUrl text url = IsUtf8 text × (parse_url None text ≡ Ok url)

-- the text is not UTF-8, or the URL Standard's parser has no reading of it
abbrev pub HasNoUrl : List ℕ → Type 0
HasNoUrl text = ¬ (IsUtf8 text) ⊎ ((e : ParseError) × (parse_url None text ≡ Err e))

-- the text of the URL that is asked for, at a port
abbrev pub text_at : HttpSettings → ℕ → List ℕ
text_at s port = url_text s.host port (asked_path s)

-- the most bytes of a request
abbrev pub request_limit : ℕ
request_limit = 1048576

-- this target is that of the settings at a port
pub record IsTargetAt (s : HttpSettings) (port : ℕ) (t : Target) : Type 0 where
  pub url : Parts
  pub reads : HasUrl (text_at s port) url
  pub host_is : t.host ≡ host_text (host_or_empty url)
  pub port_is : t.port ≡ port
  pub bytes : t.bytes ≡ request_text s port url
  pub short : length t.bytes ≤ request_limit

-- no URL is read, or the request would be too long
abbrev pub HasNoTargetAt : HttpSettings → ℕ → Type 0
HasNoTargetAt s port = HasNoUrl (text_at s port) ⊎ ((url : Parts) × HasUrl (text_at s port) url × (request_limit < length (request_text s port url)))

-- this target is that of the settings
pub record IsTarget (s : HttpSettings) (t : Target) : Type 0 where
  pub host : 0 < length s.host
  pub headers : list_all is_valid_field s.headers ≡ true
  pub port : ℕ
  pub port_is : port_of s.port ≡ Some port
  pub at : IsTargetAt s port t

-- the settings have no target
pub data IsBadTarget (s : HttpSettings) : Type 0 where
  no_host : length s.host ≡ 0 → IsBadTarget s
  no_port : port_of s.port ≡ None → IsBadTarget s
  bad_header : list_all is_valid_field s.headers ≡ false → IsBadTarget s
  no_target : {port : ℕ} → port_of s.port ≡ Some port → HasNoTargetAt s port → IsBadTarget s
