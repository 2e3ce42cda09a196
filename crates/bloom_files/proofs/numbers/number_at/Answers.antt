use Rattle.std.proofs.Common.{length, arith, refl, sym}
use Rattle.std.proofs.lemmas.Bool.{ltb-false}
use Rattle.bloom_files.proofs.NumberLemmas.{number-in, number-past}
use Rattle.bloom_files.proofs.numbers.number_at.Goals as goal

pub returns-in-Some : goal.returns-in-Some
returns-in-Some c =
    let chunks = c.as_chunks.result.0.now in
    let found = c.in-Some.ensures.lookup in
    record {
      value = number-in c.args.bytes.now c.args.place chunks c.as_chunks.ensures.front
          (omega arith) c.in-Some.number.now found.1 _ c.from_le_bytes.ensures;
      past = λ few. absurd (omega arith);
    }

pub returns-in-None : goal.returns-in-None
returns-in-None c =
    let chunks = c.as_chunks.result.0.now in
    let past = ltb-false c.args.place (length chunks) (sym c.in-None.ensures.lookup.0) in
    record {
      value = number-past c.args.bytes.now c.args.place
          (omega (arith, past, c.as_chunks.ensures.front_len));
      past = λ few. refl;
    }
