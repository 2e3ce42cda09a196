use Rattle.std.proofs.Common.{length, arith, ap, ◌∙◌}
use Rattle.bloom_parts.specs.Hashed.{write}
use Rattle.bloom_parts.proofs.SipLemmas.{cut}
use Rattle.bloom_parts.proofs.WriteLemmas.{held-pushed, pushed}
use Rattle.bloom_parts.proofs.hasher.sip.RandomDefaultHasher.push.Goals as goal

pub fill-requires : goal.fill-requires
fill-requires c =
    let is_cut = cut c.args.bytes.now _ _ c.as_chunks.ensures.front c.as_chunks.ensures.back in
    let none = held-pushed c.args.self.now c.requires _ _ _ is_cut in
    let same = ap (λ h. length h.held) c.push_words.ensures in
    omega (arith, c.as_chunks.ensures.back_len, none, same)

pub returns : goal.returns
returns c =
    let is_cut = cut c.args.bytes.now _ _ c.as_chunks.ensures.front c.as_chunks.ensures.back in
    c.fill.ensures ∙ ap (λ h. write h c.as_chunks.result.1.now) c.push_words.ensures
    ∙ pushed c.args.self.now c.requires _ _ _ is_cut
