use Rattle.std.proofs.Common.{sym, ◌∙◌}
use Rattle.std.proofs.lemmas.Result.{IfOk-weaker}
use Rattle.bloom_files.specs.FileLayouts.{sealed_file}
use Rattle.bloom_files.proofs.FileLemmas.{file-of}
use Rattle.bloom_files.proofs.filter.FilterFile.to_bytes.Goals as goal

pub returns-clause-value : goal.returns-clause-value
returns-clause-value g c =
    IfOk-weaker c.parts_to_bytes.result _ _
    (λ bytes is.
    is
    ∙ (λ i. sealed_file (c.layout.ensures i) (c.head-head.ensures.head i) (c.words.ensures i)))
    c.parts_to_bytes.ensures.value

pub returns-clause-file : goal.returns-clause-file
returns-clause-file g c =
    IfOk-weaker c.parts_to_bytes.result _ _
    (λ bytes is. file-of _ _ bytes.items _ _ _ c.layout.ensures (sym c.head-head.ensures.head)
    (sym c.words.ensures) c.head-head.ensures.range is)
    c.parts_to_bytes.ensures.file
