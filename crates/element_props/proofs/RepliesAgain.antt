-- A reply that was read is written so that it is read again.
use Rattle.std.proofs.Common.{◌≡◌, ℕ, zero, suc, ◌<◌, Bool, true, false, not, List, [], ◌∷◌, length, Option, Some, None, refl, sym, ap, ◌∙◌, if◌then◌else◌, codes, bytes_eq, nat_lt, nat_le, nat_eq, arith, IsUtf8}
use Rattle.std.specs.Prelude.{slice_index}
use Rattle.std.specs.Option.{option_map_or}
use Rattle.std.proofs.lemmas.Str.{utf8_lossy-IsUtf8, IsUtf8-from_ascii}
use Rattle.std.proofs.lemmas.Slice.Eq.{bytes_eq-Decides}
use Rattle.std.proofs.lemmas.Bool.Decides.{nat_tests}
use Rattle.jm_base.specs.declared.types.ScriptReply.{ScriptReply}
use Rattle.serde_json.specs.Data.{unsigned, negative, float, Data, null, boolean, number, string, array, object, Members}
use Rattle.serde_json.specs.Find.{get_member, as_str, as_bool}
use Rattle.element_props.specs.Forms.{has_long, members_have_long}
use Rattle.element_props.specs.Replies.{has_only, at_key, natural_within, reply_keys, reply_in, ◌>>=◌}
use Rattle.element_props.specs.PropertiesWritten.{text_data, unless, reply_members, reply_data}
use Rattle.element_props.specs.Again.{HoldJson}
use Rattle.element_props.proofs.FormsAgain.{ReadsBack, IsTemplateText, short_text, not_long, where_some}
use Rattle.element_props.proofs.EntriesAgain.{Named, find, found_entry, is_short_entry, short_entries, only_entries, IsFit, got_fit}

-- a reply that can be written
pub record IsReply (r : ScriptReply) : Type 0 where
  pub body : IsTemplateText r.body
  pub headers : IsTemplateText r.headers
  pub message : IsTemplateText r.message
  pub code : nat_le r.code 999 ≡ true
  pub ms : nat_le r.ms 4294967295 ≡ true

-- ---- writing, and reading again

text_key : (s default : List ℕ) → IsUtf8 s → option_map_or as_str (unless (bytes_eq s default) (text_data s)) (Some default) ≡ Some s
text_key s default u = key_at (bytes_eq s default) refl
  where
    key_at : (b : Bool) → bytes_eq s default ≡ b → option_map_or as_str (unless b (text_data s)) (Some default) ≡ Some s
    key_at true is = ap Some (sym ((bytes_eq-Decides s default).0 is))
    key_at false is = ap Some (utf8_lossy-IsUtf8 s u)

number_key : (limit n default : ℕ) → nat_le n limit ≡ true → option_map_or (natural_within limit) (unless (nat_eq n default) (number (unsigned n))) (Some default) ≡ Some n
number_key limit n default small = key_at (nat_eq n default) refl
  where
    key_at : (b : Bool) → nat_eq n default ≡ b → option_map_or (natural_within limit) (unless b (number (unsigned n))) (Some default) ≡ Some n
    key_at true is = let e : default ≡ n = grind (arith, nat_tests) in ap Some e
    key_at false is = rw small refl

flag_key : (b : Bool) → option_map_or as_bool (unless (not b) (boolean true)) (Some false) ≡ Some b
flag_key true = refl
flag_key false = refl

reply_made : (ms : Members) (r : ScriptReply) → has_only reply_keys ms ≡ true
    → at_key (codes "body") as_str [] ms ≡ Some r.body
    → at_key (codes "code") (natural_within 999) 200 ms ≡ Some r.code
    → at_key (codes "echo") as_bool false ms ≡ Some r.echo
    → at_key (codes "fault") as_bool false ms ≡ Some r.fault
    → at_key (codes "headers") as_str [] ms ≡ Some r.headers
    → at_key (codes "message") as_str (codes "OK") ms ≡ Some r.message
    → at_key (codes "ms") (natural_within 4294967295) 0 ms ≡ Some r.ms
    → at_key (codes "null") as_bool false ms ≡ Some r.null
    → reply_in (object ms) ≡ Some r
reply_made ms r only b c e f h m t n = rw (only, b, c, e, f, h, m, t, n) refl

abbrev pub reply_entries : ScriptReply → List Named
reply_entries r =
    (codes "body", unless (bytes_eq r.body []) (text_data r.body))
    ∷ (codes "code", unless (nat_eq r.code 200) (number (unsigned r.code)))
    ∷ (codes "echo", unless (not r.echo) (boolean true))
    ∷ (codes "fault", unless (not r.fault) (boolean true))
    ∷ (codes "headers", unless (bytes_eq r.headers []) (text_data r.headers))
    ∷ (codes "message", unless (bytes_eq r.message (codes "OK")) (text_data r.message))
    ∷ (codes "ms", unless (nat_eq r.ms 0) (number (unsigned r.ms)))
    ∷ (codes "null", unless (not r.null) (boolean true))
    ∷ []

at_entry : {A : Type 0} (form : Data → Option A) (default : A) (key : List ℕ) (r : ScriptReply) → at_key key form default (reply_members r) ≡ option_map_or form (find key (reply_entries r)) (Some default)
at_entry form default key r = ap (λ o. option_map_or form o (Some default)) (found_entry key (reply_entries r) refl)

reply_read : (r : ScriptReply) → IsReply r → reply_in (reply_data r) ≡ Some r
reply_read r good =
    reply_made (reply_members r) r (only_entries reply_keys (reply_entries r) refl)
    (at_entry as_str [] (codes "body") r ∙ text_key r.body [] good.body.utf8)
    (at_entry (natural_within 999) 200 (codes "code") r ∙ number_key 999 r.code 200 good.code)
    (at_entry as_bool false (codes "echo") r ∙ flag_key r.echo)
    (at_entry as_bool false (codes "fault") r ∙ flag_key r.fault)
    (at_entry as_str [] (codes "headers") r ∙ text_key r.headers [] good.headers.utf8)
    (at_entry as_str (codes "OK") (codes "message") r ∙ text_key r.message (codes "OK") good.message.utf8)
    (at_entry (natural_within 4294967295) 0 (codes "ms") r ∙ number_key 4294967295 r.ms 0 good.ms)
    (at_entry as_bool false (codes "null") r ∙ flag_key r.null)

text_fits : (s : List ℕ) → IsTemplateText s → has_long 65536 (text_data s) ≡ false
text_fits s good = ap (λ (t : List ℕ). nat_lt 65536 (length t)) (utf8_lossy-IsUtf8 s good.utf8) ∙ not_long (length s) good.short

short_unless : (b : Bool) (d : Data) → has_long 65536 d ≡ false → is_short_entry (unless b d)
short_unless true d h = tt
short_unless false d h = h

reply_short : (r : ScriptReply) → IsReply r → members_have_long 65536 (reply_members r) ≡ false
reply_short r good =
    short_entries (reply_entries r) (
      short_unless (bytes_eq r.body []) (text_data r.body) (text_fits r.body good.body),
      (
        short_unless (nat_eq r.code 200) (number (unsigned r.code)) refl,
        (
          short_unless (not r.echo) (boolean true) refl,
          (
            short_unless (not r.fault) (boolean true) refl,
            (
              short_unless (bytes_eq r.headers []) (text_data r.headers) (text_fits r.headers good.headers),
              (
                short_unless (bytes_eq r.message (codes "OK")) (text_data r.message) (text_fits r.message good.message),
                (
                  short_unless (nat_eq r.ms 0) (number (unsigned r.ms)) refl,
                  (short_unless (not r.null) (boolean true) refl, tt),
                ),
              ),
            ),
          ),
        ),
      ),
    )

-- ---- a reply that was read can be written

no_text : IsTemplateText []
no_text = record { utf8 = IsUtf8-from_ascii [] no_byte; short = omega arith }
  where
    no_byte : (i : ℕ) → slice_index [] i < 128
    no_byte i = omega arith

ok_text : IsTemplateText (codes "OK")
ok_text = record { utf8 = IsUtf8-from_ascii (codes "OK") ok_byte; short = omega arith }
  where
    ok_byte : (i : ℕ) → slice_index (codes "OK") i < 128
    ok_byte zero = omega arith
    ok_byte (suc zero) = omega arith
    ok_byte (suc (suc i)) = omega arith

str_fits : (d : Data) (s : List ℕ) → as_str d ≡ Some s → IsFit d → IsTemplateText s
str_fits (string t) s h fit = let e : t ≡ s = cc in rw (← e) (record { utf8 = fit.json; short = short_text t fit.short })
str_fits null s h fit = cc
str_fits (boolean b) s h fit = cc
str_fits (number n) s h fit = cc
str_fits (array ds) s h fit = cc
str_fits (object ms) s h fit = cc

text_from : (o : Option Data) (default s : List ℕ) → ((d : Data) → o ≡ Some d → IsFit d) → IsTemplateText default → option_map_or as_str o (Some default) ≡ Some s → IsTemplateText s
text_from None default s fit good h = let e : default ≡ s = cc in rw (← e) good
text_from (Some d) default s fit good h = str_fits d s h (fit d refl)

text_got : (key default s : List ℕ) (ms : Members) → HoldJson ms → members_have_long 65536 ms ≡ false → IsTemplateText default → at_key key as_str default ms ≡ Some s → IsTemplateText s
text_got key default s ms j short good h = text_from (get_member key ms) default s (λ d e. got_fit key ms d j short e) good h

natural_small : (limit n : ℕ) (d : Data) → natural_within limit d ≡ Some n → nat_le n limit ≡ true
natural_small limit n (number (unsigned m)) h =
    let w = where_some (nat_le m limit) (Some m) n h in
    let e : m ≡ n = cc in
    ap (λ k. nat_le k limit) (sym e) ∙ w.0
natural_small limit n (number (negative z)) h = cc
natural_small limit n (number (float x)) h = cc
natural_small limit n (string s) h = cc
natural_small limit n null h = cc
natural_small limit n (boolean b) h = cc
natural_small limit n (array ds) h = cc
natural_small limit n (object ms) h = cc

natural_from : (o : Option Data) (limit default n : ℕ) → nat_le default limit ≡ true → option_map_or (natural_within limit) o (Some default) ≡ Some n → nat_le n limit ≡ true
natural_from None limit default n small h = let e : default ≡ n = cc in ap (λ k. nat_le k limit) (sym e) ∙ small
natural_from (Some d) limit default n small h = natural_small limit n d h

-- the parts of a reply that was read
pub record Parts (r : ScriptReply) (body : Option (List ℕ)) (code : Option ℕ) (headers message : Option (List ℕ)) (ms : Option ℕ) : Type 0 where
  pub body_is : body ≡ Some r.body
  pub code_is : code ≡ Some r.code
  pub headers_is : headers ≡ Some r.headers
  pub message_is : message ≡ Some r.message
  pub ms_is : ms ≡ Some r.ms

parts_of : (r : ScriptReply) (b : Option (List ℕ)) (c : Option ℕ) (e f : Option Bool) (h m : Option (List ℕ)) (t : Option ℕ) (n : Option Bool)
    → (b >>= (λ body. c >>= (λ code. e >>= (λ echo. f >>= (λ fault. h >>= (λ headers. m >>= (λ message. t >>= (λ ms. n >>= (λ null.
    Some (record { code = code; message = message; headers = headers; body = body; ms = ms; null = null; fault = fault; echo = echo })))))))))) ≡ Some r → Parts r b c h m t
parts_of r None c e f h m t n is = cc
parts_of r (Some b) None e f h m t n is = cc
parts_of r (Some b) (Some c) None f h m t n is = cc
parts_of r (Some b) (Some c) (Some e) None h m t n is = cc
parts_of r (Some b) (Some c) (Some e) (Some f) None m t n is = cc
parts_of r (Some b) (Some c) (Some e) (Some f) (Some h) None t n is = cc
parts_of r (Some b) (Some c) (Some e) (Some f) (Some h) (Some m) None n is = cc
parts_of r (Some b) (Some c) (Some e) (Some f) (Some h) (Some m) (Some t) None is = cc
parts_of r (Some b) (Some c) (Some e) (Some f) (Some h) (Some m) (Some t) (Some n) is =
    let q : ScriptReply = record { code = c; message = m; headers = h; body = b; ms = t; null = n; fault = f; echo = e } in
    let same : q ≡ r = cc in
    record {
      body_is = ap (λ (x : ScriptReply). Some x.body) same;
      code_is = ap (λ (x : ScriptReply). Some x.code) same;
      headers_is = ap (λ (x : ScriptReply). Some x.headers) same;
      message_is = ap (λ (x : ScriptReply). Some x.message) same;
      ms_is = ap (λ (x : ScriptReply). Some x.ms) same;
    }

if_then : {A B : Type 0} (b : Bool) (x : A) (f : A → Option B) (y : B) → ((if b then Some x else None) >>= f) ≡ Some y → f x ≡ Some y
if_then true x f y h = h
if_then false x f y h = cc

reply_parts : (ms : Members) (r : ScriptReply) → reply_in (object ms) ≡ Some r
    → Parts r (at_key (codes "body") as_str [] ms) (at_key (codes "code") (natural_within 999) 200 ms) (at_key (codes "headers") as_str [] ms) (at_key (codes "message") as_str (codes "OK") ms) (at_key (codes "ms") (natural_within 4294967295) 0 ms)
reply_parts ms r h =
    let f = λ (given : Members). at_key (codes "body") as_str [] given >>= (λ body. at_key (codes "code") (natural_within 999) 200 given >>= (λ code. at_key (codes "echo") as_bool false given >>= (λ echo.
    at_key (codes "fault") as_bool false given >>= (λ fault. at_key (codes "headers") as_str [] given >>= (λ headers. at_key (codes "message") as_str (codes "OK") given >>= (λ message.
    at_key (codes "ms") (natural_within 4294967295) 0 given >>= (λ ms. at_key (codes "null") as_bool false given >>= (λ null.
    Some (record { code = code; message = message; headers = headers; body = body; ms = ms; null = null; fault = fault; echo = echo }))))))))) in
    parts_of r (at_key (codes "body") as_str [] ms) (at_key (codes "code") (natural_within 999) 200 ms) (at_key (codes "echo") as_bool false ms) (at_key (codes "fault") as_bool false ms)
    (at_key (codes "headers") as_str [] ms) (at_key (codes "message") as_str (codes "OK") ms) (at_key (codes "ms") (natural_within 4294967295) 0 ms) (at_key (codes "null") as_bool false ms)
    (if_then (has_only reply_keys ms) ms f r h)

reply_fits : (ms : Members) (r : ScriptReply) → HoldJson ms → members_have_long 65536 ms ≡ false → reply_in (object ms) ≡ Some r → IsReply r
reply_fits ms r j short h =
    let p = reply_parts ms r h in
    record {
      body = text_got (codes "body") [] r.body ms j short no_text p.body_is;
      headers = text_got (codes "headers") [] r.headers ms j short no_text p.headers_is;
      message = text_got (codes "message") (codes "OK") r.message ms j short ok_text p.message_is;
      code = natural_from (get_member (codes "code") ms) 999 200 r.code refl p.code_is;
      ms = natural_from (get_member (codes "ms") ms) 4294967295 0 r.ms refl p.ms_is;
    }

pub replies_back : ReadsBack reply_in reply_data
replies_back (object ms) r j short h = let good = reply_fits ms r j short h in (reply_read r good, reply_short r good)
replies_back null r j short h = cc
replies_back (string s) r j short h = cc
replies_back (number n) r j short h = cc
replies_back (boolean b) r j short h = cc
replies_back (array ds) r j short h = cc
