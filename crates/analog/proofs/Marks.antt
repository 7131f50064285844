-- The marks that the code computes are the exact ones, which antt computes. Assumes nothing.
use Rattle.std.proofs.Common.{◌≡◌, map, refl}
use lib.Ieee.{Float, of_bits, of_int, add, neg, binary32}
use Rattle.std.specs.List.{range_with_len}
use Rattle.analog.specs.Codes.{mark_from, volt_mark, degree_mark}

pub volt-marks : map (mark_from (of_bits binary32 0x3f000000)) (range_with_len 0 255) ≡ map volt_mark (range_with_len 0 255)
unfolding add of_int of_bits
volt-marks = refl

-- -19.5 in the code is the negative of a literal
abbrev pub coldest : Float
coldest = neg (of_bits binary32 0x419c0000)

pub degree-marks : map (mark_from coldest) (range_with_len 0 100) ≡ map degree_mark (range_with_len 0 100)
unfolding add of_int of_bits neg
degree-marks = refl
