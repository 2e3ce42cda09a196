use Rattle.bloom_parts.proofs.HasherWordLemmas.{stores-first}
use Rattle.bloom_parts.proofs.hasher.sip.words.first_bytes.Goals as goal

pub returns-clause-padding : goal.returns-clause-padding
returns-clause-padding c =
    (stores-first c.to_le_bytes.result c.args.word c.args.count c.to_le_bytes.ensures).padding

pub returns-clause-held : goal.returns-clause-held
returns-clause-held c =
    (stores-first c.to_le_bytes.result c.args.word c.args.count c.to_le_bytes.ensures).held
