-- The text that good lines write. Its form is this project's own.
use Rattle.std.specs.Prelude.{ℕ, ◌+◌, ◌*◌, ◌/◌, ◌%◌, ◌^◌, zero, suc, Bool, nat_lt, if◌then◌else◌, List, [], ◌∷◌, ◌++◌, flat_map, codes}
use Rattle.bloom_parts.specs.Operations.{state_after}
use Rattle.bloom_engine.specs.declared.engine.line.Line.{Line}
use Rattle.bloom_engine.specs.declared.engine.line.Line.TheVariants.{Insert, Contains, Clear, Words}
use Rattle.bloom_engine.specs.Lines.{operations}

-- a digit of base 16, in lower case
abbrev pub hex_digit_of : ℕ → ℕ
hex_digit_of d = if nat_lt d 10 then 48 + d else 87 + d

-- the last n digits of base 16 of a number, the highest first
unfoldable pub hex_text : ℕ → ℕ → List ℕ
hex_text zero word = []
hex_text (suc n) word = hex_digit_of (word / 2 ^ (4 * n) % 16) ∷ hex_text n word

-- each word as sixteen digits on a line of its own
abbrev pub words_text : List ℕ → List ℕ
words_text words = flat_map (λ word. hex_text 16 word ++ 10 ∷ []) words

-- a reply on a line of its own
abbrev pub reply_text : Bool → List ℕ
reply_text reply = if reply then codes "true\n" else codes "false\n"

-- the number whose bits below k are those of a set
unfoldable pub word_with_bits : (ℕ → Bool) → ℕ → ℕ
word_with_bits A zero = 0
word_with_bits A (suc k) = word_with_bits A k + (if A k then 2 ^ k else 0)

-- the first w words with a content
unfoldable pub words_with_content : (ℕ → Bool) → ℕ → List ℕ
words_with_content A zero = []
words_with_content A (suc w) =
    words_with_content A w ++ word_with_bits (λ bit. A (64 * w + bit)) 64 ∷ []

-- the words after lines, where the content was A before them, at w words and k hashes
abbrev pub words_after_lines : ℕ → ℕ → (ℕ → Bool) → List Line → List ℕ
words_after_lines w k A lines = words_with_content (state_after (64 * w) k A (operations lines)) w

-- the text of good lines that come after earlier ones: each reply, and the words at each `w`, where
-- the filter gives these replies
abbrev pub text_after : ℕ → ℕ → (ℕ → Bool) → List Line → List Line → List Bool → List ℕ
text_after w k A earlier [] given = []
text_after w k A earlier (Insert hash ∷ lines) [] = []
text_after w k A earlier (Insert hash ∷ lines) (reply ∷ given) =
    reply_text reply ++ text_after w k A (earlier ++ Insert hash ∷ []) lines given
text_after w k A earlier (Contains hash ∷ lines) [] = []
text_after w k A earlier (Contains hash ∷ lines) (reply ∷ given) =
    reply_text reply ++ text_after w k A (earlier ++ Contains hash ∷ []) lines given
text_after w k A earlier (Clear ∷ lines) given =
    text_after w k A (earlier ++ Clear ∷ []) lines given
text_after w k A earlier (Words ∷ lines) given =
    words_text (words_after_lines w k A earlier)
    ++ text_after w k A (earlier ++ Words ∷ []) lines given
