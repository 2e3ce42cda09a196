use Rattle.std.proofs.Common.{◌∙◌}
use Rattle.std.proofs.lemmas.Result.{IfOk-weaker}
use Rattle.examples.proofs.WrittenLemmas.{alike, refused}
use Rattle.examples.proofs.clauses.write_and_read.Goals as goal

-- the reader has what was written, and nothing else
pub returns-clause-alike : goal.returns-clause-alike
returns-clause-alike c =
    IfOk-weaker c.read_file.result _ _
    (λ read is. alike c.args.filter.now _ _ _ c.in-Ok.ensures.file.is_file
    c.new-file.ensures.items (c.as_slice-rest.ensures.value ∙ c.in-Ok.ensures.file.added)
    c.file_reads_back.ensures.filters read _ is)
    c.read_file.ensures.file

pub returns-clause-refused : goal.returns-clause-refused
returns-clause-refused c =
    refused c.args.filter.now _ _ _ c.in-Ok.ensures.file.is_file c.new-file.ensures.items
    (c.as_slice-rest.ensures.value ∙ c.in-Ok.ensures.file.added)
    c.file_reads_back.ensures.readable _ c.read_file.ensures.refused
