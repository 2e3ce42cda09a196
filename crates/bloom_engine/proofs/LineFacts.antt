-- Lines, texts, arguments and statuses at values from outside: a wrong definition fails here. The
-- calls on lines tell nothing without `line_of` and `text_after`, which no clause of theirs names.
use Rattle.std.proofs.Common.{◌≡◌, false, [], ◌∷◌, length, map, replicate, Some, None, refl}
use Rattle.bloom_engine.proofs.Common.{codes, content, positions, Insert, Contains, Clear, Words, number_of, line_of, longest_line, hex_text, word_with_bits, words_with_content, text_after}
use Rattle.bloom_parts.specs.Chain.{chain}
use Rattle.bloom_engine.specs.declared.fault.Fault.TheVariants as fault
use Rattle.bloom_engine.specs.Arguments.{asked_of}
use Rattle.bloom_engine.specs.Faults.{status_of}

-- the good lines, the greatest number, and the longest line; then an empty line, two spaces, a
-- space behind, a number after `z`, a letter alone, a capital, a tab, a number too great, a digit
-- too many, and the bytes beside the digits
line_of-cases : (map line_of (codes "i 1" ∷ codes "c 01" ∷ codes "z" ∷ codes "w"
    ∷ codes "i 18446744073709551615" ∷ codes "c 00000000000000000001" ∷ [])
    ≡ Some (Insert 1) ∷ Some (Contains 1) ∷ Some Clear ∷ Some Words
    ∷ Some (Insert 0xffff_ffff_ffff_ffff) ∷ Some (Contains 1) ∷ [])
    × (length (codes "c 00000000000000000001") ≡ longest_line)
    × (map line_of ([] ∷ codes "i  1" ∷ codes "i 1 " ∷ codes "z 1" ∷ codes "i" ∷ codes "W"
    ∷ (105 ∷ 9 ∷ 49 ∷ []) ∷ codes "i 18446744073709551616" ∷ codes "c 000000000000000000001"
    ∷ codes "i /" ∷ codes "i :" ∷ [])
    ≡ replicate 11 None)
unfolding line_of number_of
line_of-cases = (refl, refl, refl)

-- the replies and the words of five lines, and of two words the first first, in lower case
text_after-cases : (text_after 1 3 (content (0 ∷ [])) []
    (Insert 1 ∷ Words ∷ Clear ∷ Words ∷ Contains 1 ∷ []) (false ∷ false ∷ [])
    ≡ codes "false\n0000000100100001\n0000000000000000\nfalse\n")
    × (text_after 2 3 (content (0x89ab_cdef ∷ 5 ∷ [])) [] (Words ∷ []) []
    ≡ codes "0000000089abcdef\n0000000000000005\n")
unfolding content positions chain word_with_bits words_with_content hex_text
text_after-cases = (refl, refl)

-- two numbers are arguments, from one word and no hash to 2^20 words and 2^32 - 1 hashes; no word,
-- one word and three words ask for nothing, nor what is no number or past the limits
asked_of-cases : (map asked_of ((codes "1" ∷ codes "0" ∷ [])
    ∷ (codes "00000000000000000002" ∷ codes "3" ∷ [])
    ∷ (codes "1048576" ∷ codes "4294967295" ∷ []) ∷ [])
    ≡ Some (1, 0) ∷ Some (2, 3) ∷ Some (1048576, 4294967295) ∷ [])
    × (map asked_of ([] ∷ (codes "1" ∷ []) ∷ (codes "1" ∷ codes "2" ∷ codes "3" ∷ [])
    ∷ (codes "x" ∷ codes "1" ∷ []) ∷ (codes "1" ∷ codes "x" ∷ []) ∷ (codes "0" ∷ codes "0" ∷ [])
    ∷ (codes "1048577" ∷ codes "1" ∷ []) ∷ (codes "1" ∷ codes "4294967296" ∷ []) ∷ [])
    ≡ replicate 8 None)
unfolding number_of
asked_of-cases = (refl, refl)

-- the status of each fault
status_of-cases : map status_of (fault.Usage ∷ fault.Line 7 ∷ fault.Memory ∷ fault.Input
    ∷ fault.Output ∷ [])
    ≡ 2 ∷ 2 ∷ 3 ∷ 4 ∷ 4 ∷ []
status_of-cases = refl
