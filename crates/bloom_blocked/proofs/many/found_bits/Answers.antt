use Rattle.std.proofs.Common.{rules}
use Rattle.bloom_parts.proofs.PublishedLemmas.{no-bit}
use Rattle.bloom_blocked.proofs.many.found_bits.Goals as goal

pub looks-init : goal.looks-init
looks-init c = record { bits = no-bit _; at = search rules }
