-- A hasher, its key and its bytes: more bytes, and the answer.
use Rattle.std.proofs.Common.{◌≡◌, ℕ, ◌+◌, ◌%◌, ◌<◌, ◌*◌, ◌^◌, List, [], ◌∷◌, ◌++◌, length, get_or, fold, refl, sym, ◌∙◌, ap, subst, arith, append_assoc, length-append}
use Rattle.bloom_parts.proofs.Common.{append-nil, map, concat, w64, from_le_bytes, start, absorb, answer, whole_words, rest, last_word, sip, SipState, write, finish, Hashed, Takes, Answers}
use Rattle.std.proofs.lemmas.List.Sums.{fold-append}
use Rattle.bloom_parts.specs.Laws.{TakesEach, HashesPieces, CuttingLaw, JoiningLaw}
use Rattle.bloom_parts.proofs.SipLemmas.{AreEights, IsShort, short, Continues, continues, whole_words-concat, length-concat, length-rest, empty}

-- bytes and then more
pub write-append : (h : SipState) (bytes more : List ℕ)
    → write (write h bytes) more ≡ write h (bytes ++ more)
unfolding write
write-append h bytes more =
    let joined : (h.held ++ bytes) ++ more ≡ h.held ++ (bytes ++ more) =
    append_assoc h.held bytes more in
    let further : Continues (h.held ++ bytes) more = continues (h.held ++ bytes) more in
    let words : fold absorb (fold absorb h.words (whole_words (h.held ++ bytes)))
    (whole_words (rest (h.held ++ bytes) ++ more))
    ≡ fold absorb h.words (whole_words (h.held ++ (bytes ++ more))) =
    sym (fold-append absorb h.words (whole_words (h.held ++ bytes)) _)
    ∙ ap (fold absorb h.words) (sym further.words ∙ ap whole_words joined) in
    let held : rest (rest (h.held ++ bytes) ++ more) ≡ rest (h.held ++ (bytes ++ more)) =
    sym further.remain ∙ ap rest joined in
    let count : ((h.count + length bytes) % 256 + length more) % 256
    ≡ (h.count + length (bytes ++ more)) % 256 =
    omega (arith, length-append bytes more) in
    λ i. record h { words = words i; held = held i; count = count i }

-- how many bytes are held
pub length-held : (h : SipState) (bytes : List ℕ)
    → length (write h bytes).held ≡ length (h.held ++ bytes) % 8
unfolding write
length-held h bytes = length-rest (h.held ++ bytes)

-- bytes that don't fill a word
pub write-few : (h : SipState) (bytes : List ℕ) → length (h.held ++ bytes) < 8
    → write h bytes ≡ record h { held = h.held ++ bytes; count = (h.count + length bytes) % 256 }
unfolding write
write-few h bytes few =
    let is_short : IsShort (h.held ++ bytes) = short (h.held ++ bytes) few in
    λ i. record h {
      words = fold absorb h.words (is_short.words i);
      held = is_short.remain i;
      count = (h.count + length bytes) % 256;
    }

-- bytes that fill words, and no more
pub write-words : (h : SipState) (bytes : List ℕ) (words : List (List ℕ)) → AreEights words
    → h.held ++ bytes ≡ concat words
    → write h bytes
    ≡ record h {
      words = fold absorb h.words (map (from_le_bytes w64) words);
      held = [];
      count = (h.count + length bytes) % 256;
    }
unfolding write
write-words h bytes words each is =
    let cut : whole_words (h.held ++ bytes) ≡ map (from_le_bytes w64) words =
    ap whole_words is ∙ whole_words-concat words each in
    let none : rest (h.held ++ bytes) ≡ [] =
    ap rest is
    ∙ empty (rest (concat words))
    (omega (arith, length-rest (concat words), length-concat words each)) in
    λ i. record h {
      words = fold absorb h.words (cut i);
      held = none i;
      count = (h.count + length bytes) % 256;
    }

-- bytes that fill the word begun
pub write-full : (h : SipState) (bytes : List ℕ) (word : ℕ) → length (h.held ++ bytes) ≡ 8
    → word ≡ from_le_bytes w64 (h.held ++ bytes)
    → write h bytes
    ≡ record h { words = absorb h.words word; held = []; count = (h.count + length bytes) % 256 }
write-full h bytes word eight is =
    let one : AreEights ((h.held ++ bytes) ∷ []) =
    λ i below. let first : i ≡ 0 = omega arith in
    ap (λ j. length (get_or ((h.held ++ bytes) ∷ []) j [])) first ∙ eight in
    write-words h bytes ((h.held ++ bytes) ∷ []) one (sym (append-nil (h.held ++ bytes)))
    ∙ ap (λ n. record h {
      words = absorb h.words n;
      held = [];
      count = (h.count + length bytes) % 256;
    }) (sym is)

-- where a hasher stands to key and bytes, it does so after more of them
written : (h : SipState) (bytes : List ℕ) → Takes h (write h bytes) bytes
unfolding write
written h bytes k0 k1 before is =
    let further : Continues before bytes = continues before bytes in
    let held : h.held ++ bytes ≡ rest before ++ bytes = ap (λ held. held ++ bytes) is.held in
    record {
      low = is.low;
      high = is.high;
      words =
          (λ i. fold absorb (is.words i) (whole_words (held i)))
          ∙ sym (fold-append absorb (start k0 k1) (whole_words before) _)
          ∙ ap (fold absorb (start k0 k1)) (sym further.words);
      held = ap rest held ∙ sym further.remain;
      count =
          let counted : h.count ≡ length before % 256 = is.count in
          omega (arith, length-append before bytes);
    }

-- wherever more bytes were written, the hasher has taken them in
pub takes : (old new : SipState) (bytes : List ℕ) → new ≡ write old bytes → Takes old new bytes
takes old new bytes is k0 k1 before stands =
    let P : SipState → Type 0 = λ h. Hashed h k0 k1 (before ++ bytes) in
    subst P (sym is) (written old bytes k0 k1 before stands)

-- the answer is SipHash of the bytes
pub answers : (h : SipState) → Answers h (finish h)
unfolding finish sip
answers h k0 k1 bytes is =
    let once_more : length bytes % 256 % 256 ≡ length bytes % 256 = omega arith in
    (λ i. answer (absorb (is.words i) (last_word (is.held i) (is.count i))))
    ∙ ap (λ n. answer (absorb (fold absorb (start k0 k1) (whole_words bytes))
    (from_le_bytes w64 (rest bytes) + n * 2 ^ 56))) once_more
    ∙ ap answer (sym (fold-append absorb (start k0 k1) (whole_words bytes) _))

-- pieces, one after the other
takes-each : (k0 k1 : ℕ) (before : List ℕ) (pieces : List (List ℕ)) (old new : SipState)
    → Hashed old k0 k1 before → TakesEach old new pieces
    → Hashed new k0 k1 (before ++ concat pieces)
takes-each k0 k1 before [] old new is same =
    let P : List ℕ → Type 0 = λ bytes. Hashed new k0 k1 bytes in
    let Q : SipState → Type 0 = λ h. Hashed h k0 k1 before in
    subst P (sym (append-nil before)) (subst Q same is)
takes-each k0 k1 before (piece ∷ pieces) old new is (between, taken, others) =
    let P : List ℕ → Type 0 = λ bytes. Hashed new k0 k1 bytes in
    subst P (append_assoc before piece (concat pieces))
    (takes-each k0 k1 (before ++ piece) pieces between new (taken k0 k1 before is) others)

-- a hash is that of the joined pieces
hash-of-pieces : (k0 k1 : ℕ) (pieces : List (List ℕ)) (hash : ℕ)
    → HashesPieces k0 k1 pieces hash → hash ≡ sip k0 k1 (concat pieces)
hash-of-pieces k0 k1 pieces hash made =
    made.answers k0 k1 (concat pieces)
    (takes-each k0 k1 [] pieces made.fresh made.last made.begins made.taken)

-- the law that cutting doesn't matter
pub cutting_law : CuttingLaw
cutting_law k0 k1 pieces others hash other first second same =
    hash-of-pieces k0 k1 pieces hash first
    ∙ ap (sip k0 k1) same
    ∙ sym (hash-of-pieces k0 k1 others other second)

-- writes, one after the other
written-each : (pieces : List (List ℕ)) (h : SipState) → TakesEach h (fold write h pieces) pieces
written-each [] h = refl
written-each (piece ∷ pieces) h =
    (write h piece, written h piece, written-each pieces (write h piece))

-- the law that pieces join
pub joining_law : JoiningLaw
joining_law fresh k0 k1 pieces is =
    answers (fold write fresh pieces) k0 k1 (concat pieces)
    (takes-each k0 k1 [] pieces fresh (fold write fresh pieces) is (written-each pieces fresh))
