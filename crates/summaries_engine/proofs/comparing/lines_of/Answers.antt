use Rattle.summaries_engine.proofs.comparing.lines_of.Goals as goal

-- each text is that of its estimate
pub returns : goal.returns
returns c =
    rw (
      c.in_ok-first.ensures,
      c.in_ok-second.ensures,
      c.in_ok-all.ensures,
      c.in_ok-common.ensures,
      c.in_ok-likeness.ensures,
      c.least_of.ensures,
      c.most_of.ensures,
    ) at c.format.ensures.ok
