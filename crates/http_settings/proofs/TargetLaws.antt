-- The target of settings as a function is the one that is related to them.
use Rattle.std.proofs.Common.{◌≡◌, ℕ, ◌<◌, ◌≤◌, inl, inr, Bool, true, false, List, length, Option, Some, None, refl, ap, ◌∙◌, arith}
use Rattle.std.specs.Prelude.{◌&&◌, nat_lt, nat_le, if◌then◌else◌, Ok, IsUtf8}
use Rattle.std.specs.List.{list_all}
use Rattle.std.specs.Option.{option_and_then}
use Rattle.std.specs.Str.{is_utf8}
use Rattle.std.proofs.lemmas.Bool.Decides.{nat_tests}
use Rattle.std.proofs.lemmas.Str.{IsUtf8-from_is_utf8, is_utf8-from_IsUtf8}
use Rattle.url.specs.Parser.{parse_url}
use Rattle.url.specs.Parts.{Parts, host_or_empty}
use Rattle.url.specs.Host.{host_text}
use Rattle.http_text.specs.RequestText as request
use Rattle.http_text.specs.RequestText.{IsTarget, IsTargetAt, IsBadTarget, HasNoTargetAt, is_valid_field, port_of, text_at, request_text, request_limit}
use Rattle.http_text.specs.declared.request.HttpSettings.{HttpSettings}
use Rattle.http_text.specs.declared.request.Target.{Target}
use Rattle.http_settings.specs.Targets.{target_with, target_at, target_of}

-- ---- choices

when : {A : Type 0} (b : Bool) (x y : A) → b ≡ true → (if b then x else y) ≡ x
when b x y is = ap (λ c. if c then x else y) is

unless : {A : Type 0} (b : Bool) (x y : A) → b ≡ false → (if b then x else y) ≡ y
unless b x y is = ap (λ c. if c then x else y) is

none-either : {A : Type 0} (b : Bool) (o : Option A) → o ≡ None → (if b then o else None) ≡ None
none-either true o is = is
none-either false o is = refl

above : (n : ℕ) → 0 < n → nat_lt 0 n ≡ true
above n h = grind (arith, nat_tests)

within : (n m : ℕ) → n ≤ m → nat_le n m ≡ true
within n m h = grind (arith, nat_tests)

past : (n m : ℕ) → m < n → nat_le n m ≡ false
past n m h = grind (arith, nat_tests)

none-left : (b c : Bool) → b ≡ false → (b && c) ≡ false
none-left b c is = ap (λ x. x && c) is

none-right : (b c : Bool) → c ≡ false → (b && c) ≡ false
none-right true c is = is
none-right false c is = refl

both : (b c : Bool) → b ≡ true → c ≡ true → (b && c) ≡ true
both b c h k = ap (λ x. x && c) h ∙ k

-- ---- a target

abbrev target : List ℕ → ℕ → List ℕ → Target
target host port bytes = record { host = host; port = port; bytes = bytes }

made-of : (host : List ℕ) (port : ℕ) (bytes : List ℕ) (t : Target) → t.host ≡ host → t.port ≡ port → t.bytes ≡ bytes → target host port bytes ≡ t
made-of host port bytes t a b c = rw (← a, ← b, ← c) refl

with-url : (s : HttpSettings) (port : ℕ) (t : Target) (url : Parts) → t.host ≡ host_text (host_or_empty url) → t.port ≡ port → t.bytes ≡ request_text s port url → length t.bytes ≤ 1048576
    → target_with s port (Ok url) ≡ Some t
with-url s port t url host_is port_is bytes short =
    let size : length t.bytes ≡ length (request_text s port url) = ap length bytes in
    when (nat_le (length (request_text s port url)) request_limit) (Some (target (host_text (host_or_empty url)) port (request_text s port url))) None
    (within (length (request_text s port url)) request_limit (omega (arith, size, short)))
    ∙ ap Some (made-of (host_text (host_or_empty url)) port (request_text s port url) t host_is port_is bytes)

at-port : (s : HttpSettings) (port : ℕ) (t : Target) → IsTargetAt s port t → target_at s port ≡ Some t
at-port s port t a =
    when (is_utf8 (text_at s port)) (target_with s port (parse_url None (text_at s port))) None (is_utf8-from_IsUtf8 (text_at s port) a.reads.0)
    ∙ ap (target_with s port) a.reads.1
    ∙ with-url s port t a.url a.host_is a.port_is a.bytes a.short

pub target-is : (s : HttpSettings) (t : Target) → IsTarget s t → target_of s ≡ Some t
unfolding target_of
target-is s t a =
    when (nat_lt 0 (length s.host) && list_all is_valid_field s.headers) (option_and_then (target_at s) (port_of s.port)) None
    (both (nat_lt 0 (length s.host)) (list_all is_valid_field s.headers) (above (length s.host) a.host) a.headers)
    ∙ ap (option_and_then (target_at s)) a.port_is
    ∙ at-port s a.port t a.at

-- ---- none

not-text : (text : List ℕ) → ¬ (IsUtf8 text) → (b : Bool) → is_utf8 text ≡ b → b ≡ false
not-text text none true is = absurd (none (IsUtf8-from_is_utf8 text is))
not-text text none false is = refl

none-with : (s : HttpSettings) (port : ℕ) (url : Parts) → 1048576 < length (request_text s port url) → target_with s port (Ok url) ≡ None
none-with s port url long =
    unless (nat_le (length (request_text s port url)) request_limit) (Some (target (host_text (host_or_empty url)) port (request_text s port url))) None
    (past (length (request_text s port url)) request_limit long)

none-at : (s : HttpSettings) (port : ℕ) → HasNoTargetAt s port → target_at s port ≡ None
none-at s port (inl (inl not_utf8)) =
    unless (is_utf8 (text_at s port)) (target_with s port (parse_url None (text_at s port))) None (not-text (text_at s port) not_utf8 (is_utf8 (text_at s port)) refl)
none-at s port (inl (inr (e, failed))) =
    none-either (is_utf8 (text_at s port)) (target_with s port (parse_url None (text_at s port))) (ap (target_with s port) failed)
none-at s port (inr (url, reads, long)) =
    none-either (is_utf8 (text_at s port)) (target_with s port (parse_url None (text_at s port))) (ap (target_with s port) reads.1 ∙ none-with s port url long)

no-length : (n : ℕ) → n ≡ 0 → nat_lt 0 n ≡ false
no-length n is = rw is refl

pub target-none : (s : HttpSettings) → IsBadTarget s → target_of s ≡ None
unfolding target_of
target-none s (request.no_host e) =
    unless (nat_lt 0 (length s.host) && list_all is_valid_field s.headers) (option_and_then (target_at s) (port_of s.port)) None
    (none-left (nat_lt 0 (length s.host)) (list_all is_valid_field s.headers) (no-length (length s.host) e))
target-none s (request.no_port e) =
    none-either (nat_lt 0 (length s.host) && list_all is_valid_field s.headers) (option_and_then (target_at s) (port_of s.port)) (ap (option_and_then (target_at s)) e)
target-none s (request.bad_header e) =
    unless (nat_lt 0 (length s.host) && list_all is_valid_field s.headers) (option_and_then (target_at s) (port_of s.port)) None
    (none-right (nat_lt 0 (length s.host)) (list_all is_valid_field s.headers) e)
target-none s (request.no_target {port} is none) =
    none-either (nat_lt 0 (length s.host) && list_all is_valid_field s.headers) (option_and_then (target_at s) (port_of s.port)) (ap (option_and_then (target_at s)) is ∙ none-at s port none)
