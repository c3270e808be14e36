-- What extractors and assertions see of a reply.
use Rattle.std.specs.Prelude.{ℕ, List, take, decimal}
use Rattle.std.specs.Str.Lossy.{utf8_valid_len}
use Rattle.jm_base.specs.declared.types.Reply.{Reply}
use Rattle.element_props.specs.declared.choices.Field.{Field}
use Rattle.element_props.specs.declared.choices.Field.TheVariants.{Body, Headers, Code, Message}

-- the longest prefix of bytes that is UTF-8
abbrev pub text_in : List ℕ → List ℕ
text_in bytes = take (utf8_valid_len bytes) bytes

-- the part of a reply that is looked at: the code by its decimal digits
abbrev pub field_of : Field → Reply → List ℕ
field_of Body reply = reply.body
field_of Headers reply = reply.headers
field_of Code reply = decimal reply.code
field_of Message reply = reply.message
