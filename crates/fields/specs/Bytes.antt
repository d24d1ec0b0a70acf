-- What is read at the front of some bytes: a 32-bit number, the head of a record, a list's length, a name, a flag; and where it ends.
use Rattle.std.specs.Prelude.{ℕ, ◌+◌, ◌-◌, ◌*◌, List, Bool, true, false, length, get_or, ltb, eqb, Result, Ok, Err}
use Rattle.fields.specs.declared.Refusal.{Refusal}
use Rattle.fields.specs.declared.Refusal.TheVariants.{Short, Unknown}

-- a record's kind and its payload's length, where the head and the payload fit; or the refusal
pub data Head : Type 0 where
  Piece : ℕ → ℕ → Head
  Refused : Refusal → Head

-- the length that a list, a flow, a stitch or a name announces, where so many bytes follow; or the refusal
pub data Span : Type 0 where
  Bytes : ℕ → Span
  Refused : Refusal → Span

-- x where the test passes, y where it fails
abbrev pub pick : {A : Type 0} → Bool → A → A → A
pick true x y = x
pick false x y = y

-- a little-endian 32-bit number
abbrev pub le32 : ℕ → ℕ → ℕ → ℕ → ℕ
le32 a b c d = a + b * 256 + c * 65536 + d * 16777216

-- the number at the offset
abbrev pub le32_at : List ℕ → ℕ → ℕ
le32_at s i = le32 (get_or s i 0) (get_or s (i + 1) 0) (get_or s (i + 2) 0) (get_or s (i + 3) 0)

-- a record: a kind byte and a payload length, and the payload fits
unfoldable pub head_of : List ℕ → Head
head_of s =
    pick (ltb (length s) 5) (Head.Refused Short)
    (pick (ltb (length s - 5) (le32_at s 1)) (Head.Refused Short) (Head.Piece (get_or s 0 0) (le32_at s 1)))

-- a list, a flow or a stitch: its length, and its bytes fit
unfoldable pub list_of : List ℕ → Span
list_of s =
    pick (ltb (length s) 4) (Span.Refused Short)
    (pick (ltb (length s - 4) (le32_at s 0)) (Span.Refused Short) (Span.Bytes (le32_at s 0)))

-- a name: its count byte, and its bytes fit
unfoldable pub name_of : List ℕ → Span
name_of s =
    pick (ltb (length s) 1) (Span.Refused Short)
    (pick (ltb (length s - 1) (get_or s 0 0)) (Span.Refused Short) (Span.Bytes (get_or s 0 0)))

-- a flag: 0 or 1
unfoldable pub flag_of : List ℕ → Result Bool Refusal
flag_of s =
    pick (ltb (length s) 1) (Err Short)
    (pick (eqb (get_or s 0 0) 0) (Ok false) (pick (eqb (get_or s 0 0) 1) (Ok true) (Err Unknown)))

-- the place after what announces its length in w bytes; or the refusal
unfoldable pub span_reach : ℕ → Span → Result ℕ Refusal
span_reach w (Span.Bytes n) = Ok (w + n)
span_reach w (Span.Refused r) = Err r

-- a record's kind and the place after it; or the refusal
unfoldable pub read_of_head : Head → Result (ℕ × ℕ) Refusal
read_of_head (Head.Piece kind n) = Ok (kind, (5 + n))
read_of_head (Head.Refused r) = Err r
