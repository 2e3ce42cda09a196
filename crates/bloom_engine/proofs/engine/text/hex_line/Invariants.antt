use Rattle.bloom_engine.proofs.HexLemmas.{HasDigits}
use Rattle.bloom_engine.proofs.engine.text.hex_line.Given as goal

-- the digits so far, and those to come
abbrev pub invariant-digits : goal.invariant-digits
invariant-digits l = HasDigits l.word l.at l.text
