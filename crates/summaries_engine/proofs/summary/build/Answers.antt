use Rattle.std.proofs.Common.{[], ◌∙◌, ap, map, subst}
use denote.Param.Send.{sendable}
use Rattle.summaries_engine.proofs.Common.{key_of, Classic, HashesInputs}
use Rattle.summaries_engine.proofs.CrewLemmas.{hold-takes}
use Rattle.summaries_engine.proofs.FillerLemmas.{keyed-made, summary-made}
use Rattle.summaries_engine.proofs.summary.build.Goals as goal

-- the filters hold all keys together
pub into_filter-requires : goal.into_filter-requires
into_filter-requires g c =
    let did = c.in-Ok-filled_from.ensures.all in
    (search sendable, (c.args.empty, did.0, did.2 c.args.empty [] c.in-Ok.ensures.none))

-- exactly the bits of all keys are set, and the hashers stay
pub returns-in-Ok-filled_from : goal.returns-in-Ok-filled_from
returns-in-Ok-filled_from g c =
    let lies = g.S.Inputs.has c.args.inputs.now in
    let names = map (λ name. name.now) c.args.names.now in
    let did = c.in-Ok-filled_from.ensures.all in
    let made = c.into_filter.result in
    let takes = hold-takes c.args.empty c.requires.empty _ _ made did.0 c.in-Ok.ensures.none did.2
    c.into_filter.ensures in
    record {
      summary = summary-made (Classic c.args.empty) (Classic made) did.0 c.requires.empty takes
          lies g.row.END names
          (subst (λ key. HashesInputs lies key g.row.END names did.0)
          (c.key-key.ensures.value ∙ ap key_of c.hasher.ensures.value) did.1);
      hasher = takes.hasher;
      keyed = keyed-made (Classic c.args.empty) (Classic made) did.0 c.requires.empty takes;
      stops = tt;
    }
