-- What C promises of words that threads share. Such words lie where C put them for good, and change
-- in single atomic operations alone. This project's own.
use Rattle.std.specs.Prelude.{◌≡◌, ℕ, ◌*◌, ◌^◌, ◌≤◌, ◌<◌, List, length}
use base.Fml.{Fml, fsep, fex, finv}
use denote.RawPtr.{Ptr, InBlock, block_of, count_of}
use Rattle.bloom_parts.specs.Made.{SharedWords}
use Rattle.atomic_table.specs.Seated.{row, fact}

-- this many words at a pointer, whatever they hold
abbrev pub rows : Ptr → ℕ → Fml
rows p n = fex (List ℕ) (λ words. fsep (fact (length words ≡ n)) (row (block_of p) (count_of p)
    words))

-- the words lie within one block of memory
abbrev pub Reaches : Ptr → ℕ → Type 0
Reaches p n = (0 < n → InBlock p) × (n * 8 < 2 ^ 63)

-- the words lie there for good, and each step on them finds them as the steps before it left them
abbrev pub words_lie : Ptr → ℕ → Fml
words_lie p n = fsep (fact (Reaches p n)) (finv (rows p n))

-- which vector these words are: the same for every call with this pointer and number of words
abbrev pub vector_of : Ptr → ℕ → SharedWords
vector_of p n = record { name = 2 ^ block_of p * 3 ^ count_of p; count = n }

-- this many words make a filter
abbrev pub MakeFilter : ℕ → Type 0
MakeFilter n = (1 ≤ n) × (n < 2 ^ 58)

-- this many words make a filter in lines of eight
abbrev pub MakeLines : ℕ → Type 0
MakeLines n = (8 ≤ n) × (n < 2 ^ 58)
