-- Settings have one target at most, and none where they are bad.
use Rattle.std.proofs.Common.{◌≡◌, ℕ, ◌<◌, ◌≤◌, ◌⊎◌, inl, inr, Bool, true, false, List, length, Option, Some, None, refl, sym, ap, subst, ◌∙◌, arith}
use Rattle.std.specs.Prelude.{Result, Ok, Err}
use Rattle.url.specs.Parser.{parse_url}
use Rattle.url.specs.Parts.{Parts, host_or_empty}
use Rattle.url.specs.Host.{host_text}
use Rattle.url.specs.declared.error.ParseError.{ParseError}
use Rattle.http_text.specs.RequestText as request
use Rattle.http_text.specs.RequestText.{IsTarget, IsTargetAt, IsBadTarget, HasNoTargetAt, port_of, text_at, request_text}
use Rattle.http_text.specs.declared.request.HttpSettings.{HttpSettings}
use Rattle.http_text.specs.declared.request.Target.{Target}

same-number : (o : Option ℕ) (n m : ℕ) → o ≡ Some n → o ≡ Some m → n ≡ m
same-number o n m a b = cc

same-url : (r : Result Parts ParseError) (u v : Parts) → r ≡ Ok u → r ≡ Ok v → u ≡ v
same-url r u v a b = cc

abbrev target : List ℕ → ℕ → List ℕ → Target
target host port bytes = record { host = host; port = port; bytes = bytes }

-- a target is that of its parts
made-of : (host : List ℕ) (port : ℕ) (bytes : List ℕ) (t : Target) → t.host ≡ host → t.port ≡ port → t.bytes ≡ bytes → target host port bytes ≡ t
made-of host port bytes t a b c = rw (← a, ← b, ← c) refl

one-at : (s : HttpSettings) (port : ℕ) (t u : Target) → IsTargetAt s port t → IsTargetAt s port u → t ≡ u
one-at s port t u a b =
    let url = same-url (parse_url None (text_at s port)) a.url b.url a.reads.1 b.reads.1 in
    sym (made-of (host_text (host_or_empty a.url)) port (request_text s port a.url) t a.host_is a.port_is a.bytes)
    ∙ ap (λ x. target (host_text (host_or_empty x)) port (request_text s port x)) url
    ∙ made-of (host_text (host_or_empty b.url)) port (request_text s port b.url) u b.host_is b.port_is b.bytes

pub one-target : (s : HttpSettings) (t u : Target) → IsTarget s t → IsTarget s u → t ≡ u
one-target s t u a b =
    one-at s a.port t u a.at (subst (λ p. IsTargetAt s p u) (sym (same-number (port_of s.port) a.port b.port a.port_is b.port_is)) b.at)

not-bad-at : (s : HttpSettings) (port : ℕ) (t : Target) → IsTargetAt s port t → HasNoTargetAt s port → ⊥
not-bad-at s port t a (inl (inl no_text)) = no_text a.reads.0
not-bad-at s port t a (inl (inr (e, failed))) = let k : Ok a.url ≡ Err e = sym a.reads.1 ∙ failed in cc
not-bad-at s port t a (inr (url, reads, long)) =
    let same = same-url (parse_url None (text_at s port)) a.url url a.reads.1 reads.1 in
    let size : length t.bytes ≡ length (request_text s port url) = ap length a.bytes ∙ ap (λ x. length (request_text s port x)) same in
    let past : 1048576 < length (request_text s port url) = long in
    let short : length t.bytes ≤ 1048576 = a.short in
    omega (arith, size, past, short)

pub not-bad : (s : HttpSettings) (t : Target) → IsTarget s t → IsBadTarget s → ⊥
not-bad s t a (request.no_host e) = omega (arith, a.host, e)
not-bad s t a (request.no_port e) = let k : None ≡ Some a.port = sym e ∙ a.port_is in cc
not-bad s t a (request.bad_header e) = let k : false ≡ true = sym e ∙ a.headers in cc
not-bad s t a (request.no_target {port} is none) =
    not-bad-at s a.port t a.at (subst (HasNoTargetAt s) (same-number (port_of s.port) port a.port is a.port_is) none)
