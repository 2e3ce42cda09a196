-- What the steps of a write make of a hasher: whole words, the bytes around them, the last word.
use Rattle.std.proofs.Common.{◌≡◌, ℕ, ◌+◌, ◌-◌, ◌*◌, ◌%◌, ◌^◌, ◌<◌, ◌++◌, List, [], length, set, take, fold, arith, ap, sym, ◌∙◌, length-append}
use Rattle.bloom_parts.proofs.Common.{map, concat, w64, from_le_bytes, padded, held_in, IsKept, SipState, write, finish, Takes, Words, absorb, answer, last_word}
use Rattle.bloom_parts.proofs.BufferLemmas.{topped, length-held_in}
use Rattle.bloom_parts.proofs.SipLemmas.{AreEights, IsCut, empty, length-concat}
use Rattle.bloom_parts.proofs.HashedLemmas.{takes, write-append, write-words, length-held}

-- where no byte is held, whole words leave none, and what remains of the bytes may follow
module _ (h : SipState) (none : h.held ≡ []) (bytes : List ℕ) (words : List (List ℕ))
    (others : List ℕ) (is_cut : IsCut bytes words others) where
  -- no byte is held after the words
  pub held-pushed : length (write h (concat words)).held ≡ 0
  held-pushed =
      omega (
        arith,
        length-held h (concat words),
        length-append h.held (concat words),
        ap length none,
        is_cut.size,
      )

  -- both together are the bytes
  pub pushed : write (write h (concat words)) others ≡ write h bytes
  pushed = write-append h (concat words) others ∙ ap (write h) is_cut.joined

-- whole words taken in, with their number counted in 64 bits
module _ (h : SipState) (none : h.held ≡ []) (buffer : List ℕ)
    (held : h.held ≡ take (h.count % 8) buffer) (words : List (List ℕ)) (each : AreEights words)
    (after : Words) (taken : after ≡ fold absorb h.words (map (from_le_bytes w64) words)) where
  -- the number of bytes taken in, as the code counts it
  abbrev pub counted : ℕ
  counted = (h.count + length words * 8 % 2 ^ 64) % 2 ^ 64 % 256

  -- the hasher after the words
  pub pushed-words : record h { words = after; held = take (counted % 8) buffer; count = counted }
      ≡ write h (concat words)
  pushed-words =
      let size : length (concat words) ≡ 8 * length words = length-concat words each in
      let same : counted % 8 ≡ h.count % 8 = omega arith in
      let count : counted ≡ (h.count + length (concat words)) % 256 = omega (arith, size) in
      (λ i. record h { words = taken i; held = take (same i) buffer; count = count i })
      ∙ (λ i. record h {
        words = fold absorb h.words (map (from_le_bytes w64) words);
        held = (sym held ∙ none) i;
        count = (h.count + length (concat words)) % 256;
      })
      ∙ sym (write-words h (concat words) words each (ap (λ held. held ++ concat words) none))

-- how many bytes are held, where h is the hasher as it is opened
pub size-held : (old h : SipState) (buffer : List ℕ) → h ≡ old → length buffer ≡ 8
    → h.held ≡ held_in buffer h.count → length old.held ≡ h.count % 8
size-held old h buffer view eight held =
    ap (λ x. length x.held) (sym view) ∙ ap length held ∙ length-held_in buffer h.count eight

-- bytes that fill the word begun leave none held, where h is the hasher as it is opened
pub held-filled : (old h new : SipState) (buffer bytes : List ℕ) → h ≡ old → length buffer ≡ 8
    → h.held ≡ held_in buffer h.count → new ≡ write old bytes → length bytes ≡ 8 - h.count % 8
    → new.held ≡ []
held-filled old h new buffer bytes view eight held is filling =
    let size = size-held old h buffer view eight held in
    let joined = length-append old.held bytes in
    ap (λ x. x.held) is ∙ empty _ (omega (arith, length-held old bytes, joined, size, filling))

-- bytes were written, and so the hasher has taken them in
abbrev pub HasWritten : SipState → SipState → List ℕ → Type 0
HasWritten old new bytes = record { state : new ≡ write old bytes; taken : Takes old new bytes }

-- what is written is taken in
pub has_written : (old new : SipState) (bytes : List ℕ) → new ≡ write old bytes
    → HasWritten old new bytes
has_written old new bytes is = record { state = is; taken = takes old new bytes is }

-- the first bytes were written, and then the others
pub has_written-both : (old mid new : SipState) (bytes first others : List ℕ)
    → bytes ≡ first ++ others → mid ≡ write old first → new ≡ write mid others
    → HasWritten old new bytes
has_written-both old mid new bytes first others cut is_first is_others =
    has_written old new bytes
    (is_others ∙ ap (λ h. write h others) is_first ∙ write-append old first others
    ∙ ap (write old) (sym cut))

-- a buffer with the length as its eighth byte is the last word
last-padded : (buffer held : List ℕ) (count : ℕ) → buffer ≡ padded held → length held < 8
    → count < 256 → from_le_bytes w64 (set buffer 7 count) ≡ last_word held count
last-padded buffer held count is few small =
    let once : count % 256 ≡ count = omega arith in
    ap (λ b. from_le_bytes w64 (set b 7 count)) is
    ∙ topped held count few
    ∙ ap (λ n. from_le_bytes w64 held + n * 2 ^ 56) (sym once)

-- what is made of that word is the answer, where h is the hasher as it is opened
pub finished : (old h : SipState) (buffer : List ℕ) → h ≡ old → length buffer ≡ 8
    → IsKept buffer h.count → h.held ≡ held_in buffer h.count
    → (word : ℕ) → word ≡ from_le_bytes w64 (set buffer 7 h.count)
    → (last : Words) → last ≡ absorb h.words word → (hash : ℕ) → hash ≡ answer last
    → hash ≡ finish old
unfolding finish
finished old h buffer view eight kept held word is_word last is_last hash is =
    let few : length h.held < 8 =
    omega (arith, ap length held, length-held_in buffer h.count eight) in
    let whole : word ≡ last_word h.held h.count =
    is_word
    ∙ last-padded buffer h.held h.count (kept.padding ∙ ap padded (sym held)) few kept.small in
    is ∙ ap answer (is_last ∙ ap (absorb h.words) whole) ∙ ap finish view
