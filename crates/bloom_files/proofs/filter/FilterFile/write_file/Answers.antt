use Rattle.std.proofs.Common.{ℕ, List, subst}
use Rattle.bloom_files.proofs.Common.{on_ok_weaker, Appends, AppendsPart, Head, Layout, WritesParts, sealed_file}
use Rattle.std.specs.Prelude.{OnErr, OnOk}
use Rattle.bloom_files.proofs.filter.FilterFile.write_file.Goals as goal

pub returns-clause-file : goal.returns-clause-file
returns-clause-file g c =
    let from = g.W.Write.contents c.args.output.now in
    let to = g.W.Write.contents c.write_parts.new.output in
    let head = c.head-head.ensures in
    let parts : (layout : Layout) (h : Head) (words : List ℕ) → Type 0 = λ layout h words.
    OnOk c.write_parts.result (WritesParts layout from to h words) in
    on_ok_weaker c.write_parts.result
    (λ written. record {
      bytes = written.bytes;
      added = written.added;
      is_file = record { parts = written.is_file; fits = head.range };
    })
    (subst (λ t. t) (λ i. parts (c.layout.ensures i) (head.head i) (c.words.ensures i))
    c.write_parts.ensures.file)

pub returns-clause-whole : goal.returns-clause-whole
returns-clause-whole g c =
    let from = g.W.Write.contents c.args.output.now in
    let to = g.W.Write.contents c.write_parts.new.output in
    subst (λ text. OnOk c.write_parts.result (Appends from to text))
    (λ i. sealed_file (c.layout.ensures i) (c.head-head.ensures.head i) (c.words.ensures i))
    c.write_parts.ensures.whole

pub returns-clause-part : goal.returns-clause-part
returns-clause-part g c =
    let from = g.W.Write.contents c.args.output.now in
    let to = g.W.Write.contents c.write_parts.new.output in
    subst (λ text. OnErr c.write_parts.result (AppendsPart text from to))
    (λ i. sealed_file (c.layout.ensures i) (c.head-head.ensures.head i) (c.words.ensures i))
    c.write_parts.ensures.part
