-- A `&` to shared words holds what is known of them, which can be had twice. Assumes `Logic`.
use Rattle.atomic_table.proofs.Names.{snd∗, sem, copy_shared}
use base.Before.{before}
use denote.Struct.Field.{RawPtr-field, usize-field}
use denote.Struct.Laws.{RawPtr-copy, usize-copy}
use denote.Struct.Lending.{of_Lends}
use Rattle.logbook.proofs.Fields.{lends_twice}
use Rattle.fastbloom_c.specs.Passed.{words_lie}
use Rattle.fastbloom_c.specs.contracts.passed_words.RawWords as C
use Rattle.fastbloom_c.proofs.Steps.{lie_twice}
use Rattle.fastbloom_c.proofs.passed_words.RawWords.TheLaw.Statement.{statement}

pub shares : statement
shares = of_Lends C.struct C.the_codes C.the_heap C.the_lent
    (λ d p. record {
      contraction = λ M 𝓤 𝓛 κ. lie_twice 𝓛 d.at d.len;
      mono = λ M 𝓤 𝓛 κ' κ. snd∗ 𝓤
          (sem 𝓛 (before κ' κ)) (sem 𝓛 (words_lie d.at d.len));
    })
    (copy_shared RawPtr-field RawPtr-copy, (copy_shared usize-field usize-copy, tt))
    (λ M 𝓤 𝓛 d p. lends_twice 𝓛 (words_lie d.at d.len) (lie_twice 𝓛 d.at d.len) C.the_row.lives)
