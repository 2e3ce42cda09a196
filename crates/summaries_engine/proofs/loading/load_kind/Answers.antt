use Rattle.std.proofs.Common.{ap}
use Rattle.std.specs.Result.{result_err}
use Rattle.summaries_engine.proofs.UnloadedLemmas.{file-right}
use Rattle.summaries_engine.proofs.loading.load_kind.Goals as goal

-- what is reported of the file's error
pub returns-in-Err-clause-right : goal.returns-in-Err-clause-right
returns-in-Err-clause-right g c =
    file-right g.F.FilterFile.layout c.args.start.now c.args.name.now _ _ c.in-Err.error _ _
    c.chain.ensures.bytes (ap result_err c.in-Err.is) c.read_file.ensures.refused
    c.unloaded.ensures.told
