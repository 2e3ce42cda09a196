use Rattle.std.proofs.Common.{◌-◌, ◌++◌, length, length-drop, drop, take_all, ap, arith, ◌∙◌}
use Rattle.bloom_files.proofs.Common.{sip, sealed_bytes}
use Rattle.bloom_files.proofs.head.right_seal_in.Goals as goal

pub returns : goal.returns
returns c =
    let bytes = c.args.bytes.now in
    let all = take_all (length bytes - 64) (drop 64 bytes) (omega (arith, length-drop 64 bytes)) in
    c.finish.ensures.hash 0 0 _ (c.write.ensures.taken 0 0 _ c.begin_seal-hasher.ensures)
    ∙ ap (λ l. sip 0 0 (sealed_bytes c.args.layout bytes ++ l)) all
