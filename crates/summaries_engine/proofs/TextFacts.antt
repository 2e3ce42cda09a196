-- What is reported about a filter, in lines and in JSON (RFC 8259): texts that were written down by
-- hand, and the nearest that don't tell the filter.
use Rattle.std.proofs.Common.{◌≡◌, ℕ, ◌-◌, ◌^◌, List, [], ◌∷◌, ◌++◌, codes, get_or, refl, ap, lit≤, arith}
use Rattle.summaries_engine.proofs.Common.{char_count, digits, padded_integral, content, count_on, DefaultFilter, Sealed, Unsealed, Json, Classic, Blocked}
use Rattle.bloom_parts.specs.Estimates.{EstimatesItems}
use Rattle.bloom_parts.specs.Powers.{rounded_power}
use Rattle.summaries_engine.specs.Facts.{TellsFilter, estimates_text, lines_text, rate_of_text}
use Rattle.summaries_engine.specs.Scripts.{TellsScript, parts_script, rate_script}
use Rattle.summaries_engine.proofs.Cases.{from, from_to, line, made_of}

-- two of 64 bits are set under the key of the bytes 0 to 15, and all under the zero key
abbrev two_set : DefaultFilter
two_set = made_of (5 ∷ []) 2 0x0706_0504_0302_0100 0x0f0e_0d0c_0b0a_0908

abbrev all_set : DefaultFilter
all_set = made_of ((2 ^ 64 - 1) ∷ []) 2 0 0

-- two of 64 bits are 3.125 percent, and (2 / 64)^2 is 1 / 1024, between two billionths
abbrev lines_of_two : List ℕ
lines_of_two =
    codes "form: file, sealed\nbits: 64\nhashes: 2\nkey: 000102030405060708090a0b0c0d0e0f\n"
    ++ (codes "bits set: 2 (3.13 %)\nitems: 1 to 2\n"
    ++ codes "false positive rate: 0.000976562 to 0.000976563\n")

abbrev lines_of_all : List ℕ
lines_of_all =
    codes "form: file, no seal\nbits: 64\nhashes: 2\nkey: 00000000000000000000000000000000\n"
    ++ (codes "bits set: 64 (100.00 %)\nitems: 9 or more\n"
    ++ codes "false positive rate: 1.000000000 to 1.000000000\n")

-- the lines tell the filters, if these are the bounds of their items, and none that came as JSON
tells-filter : (EstimatesItems 64 2 2 (from_to 1 2 (lit≤ tt))
    → TellsFilter (Classic two_set) Sealed lines_of_two)
    × (EstimatesItems 64 2 64 (from 9) → TellsFilter (Classic all_set) Unsealed lines_of_all)
    × (TellsFilter (Classic two_set) Json lines_of_two → ⊥)
unfolding padded_integral digits char_count content count_on lines_text estimates_text
    rate_of_text rounded_power
tells-filter = (
  λ estimates. record { items = from_to 1 2 (lit≤ tt); estimates = estimates; is = refl },
  λ estimates. record { items = from 9; estimates = estimates; is = refl },
  λ told.
      let letter : ◌≡◌ {A = ℕ} 102 74 = ap (λ t. get_or t 6 0) told.is in
      absurd (omega (arith, letter)),
)

-- of a blocked filter neither items nor a rate are told
tells-blocked : TellsFilter (Blocked (line 5)) Sealed
    (codes "kind: blocked\nform: file, sealed\nbits: 512\nhashes: 2\n"
    ++ codes "key: 00000000000000000000000000000000\nbits set: 2 (0.39 %)\n")
unfolding padded_integral digits char_count content count_on lines_text
tells-blocked = refl

abbrev script_of_two : List ℕ
script_of_two =
    codes "{\"kind\":\"classic\",\"form\":\"file, sealed\",\"bits\":64,\"hashes\":2,"
    ++ (codes "\"key\":\"000102030405060708090a0b0c0d0e0f\",\"bits_set\":2,"
    ++ (codes "\"items_low\":1,\"items_high\":2,"
    ++ codes "\"rate_low\":0.000976562,\"rate_high\":0.000976563}\n"))

abbrev script_of_all : List ℕ
script_of_all =
    codes "{\"kind\":\"classic\",\"form\":\"JSON\",\"bits\":64,\"hashes\":2,"
    ++ (codes "\"key\":\"00000000000000000000000000000000\",\"bits_set\":64,"
    ++ (codes "\"items_low\":9,\"items_high\":null,"
    ++ codes "\"rate_low\":1.000000000,\"rate_high\":1.000000000}\n"))

-- the same in JSON
tells-script : (EstimatesItems 64 2 2 (from_to 1 2 (lit≤ tt))
    → TellsScript (Classic two_set) Sealed script_of_two)
    × (EstimatesItems 64 2 64 (from 9) → TellsScript (Classic all_set) Json script_of_all)
    × (TellsScript (Classic two_set) Json script_of_two → ⊥)
unfolding parts_script rate_script padded_integral digits char_count content count_on rounded_power
tells-script = (
  λ estimates. record { items = from_to 1 2 (lit≤ tt); estimates = estimates; is = refl },
  λ estimates. record { items = from 9; estimates = estimates; is = refl },
  λ told.
      let letter : ◌≡◌ {A = ℕ} 102 74 = ap (λ t. get_or t 26 0) told.is in
      absurd (omega (arith, letter)),
)

tells-blocked_script : TellsScript (Blocked (line 5)) Sealed
    (codes "{\"kind\":\"blocked\",\"form\":\"file, sealed\",\"bits\":512,\"hashes\":2,"
    ++ codes "\"key\":\"00000000000000000000000000000000\",\"bits_set\":2}\n")
unfolding parts_script padded_integral digits char_count content count_on
tells-blocked_script = refl
