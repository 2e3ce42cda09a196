use Rattle.std.proofs.Common.{take}
use Rattle.bloom_engine.proofs.Common.{Appends, words_text}
use Rattle.bloom_engine.proofs.engine.text.put_words.Given as goal

-- the words so far are written
abbrev pub invariant-words : goal.invariant-words
invariant-words g l =
    Appends (g.W.Write.contents l.fn.output) (g.W.Write.contents l.output)
    (words_text (take l.word-index l.words))
