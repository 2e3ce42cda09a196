use Rattle.std.proofs.Common.{◌++◌, refl, subst, inr, arith}
use Rattle.bloom_files.proofs.Common.{Appends-trans, on_ok_weaker, Appends, AppendsPart, bytes_of, right_seal, sealed_file}
use Rattle.std.specs.Prelude.{◌≡◌, OnErr}
use Rattle.lines.proofs.WritingLemmas.{part-both}
use Rattle.bloom_files.proofs.FileLemmas.{file-text}
use Rattle.bloom_files.proofs.streams.write_parts.Goals as goal

pub returns-clause-file : goal.returns-clause-file
returns-clause-file g c =
    let from = g.W.Write.contents c.args.output.now in
    let to = g.W.Write.contents c.put_words.new.output in
    let text : c.head_bytes_in.result ++ bytes_of c.args.words.now
    ≡ sealed_file c.args.layout c.args.head.now c.args.words.now =
    file-text c.args.layout c.args.head.now _ _ _ c.right_seal-seal.ensures
    c.head_bytes_in.ensures in
    on_ok_weaker c.put_words.result
    (λ rest. record {
      bytes = sealed_file c.args.layout c.args.head.now c.args.words.now;
      added = subst (Appends from to) text
          (Appends-trans _ _ _ _ _ c.in_ok-put_bytes.ensures.whole rest);
      is_file = record {
        seal = right_seal c.args.layout c.args.head.now c.args.words.now;
        narrow = omega (arith, c.right_seal-seal.type_inv, c.right_seal-seal.ensures);
        sealed = inr refl;
        is = refl;
        count = c.requires.count;
        shape = c.requires.shape;
        whole = c.requires.whole;
      };
    })
    c.put_words.ensures.whole

pub returns-clause-part : goal.returns-clause-part
returns-clause-part g c =
    let from = g.W.Write.contents c.args.output.now in
    let to = g.W.Write.contents c.put_words.new.output in
    subst (λ text. OnErr c.put_words.result (AppendsPart text from to))
    (file-text c.args.layout c.args.head.now _ _ _ c.right_seal-seal.ensures
    c.head_bytes_in.ensures)
    (part-both _ _ _ _ _ _ c.in_ok-put_bytes.ensures.whole c.put_words.ensures.part)
