-- The check word: the 16-bit CRC with generator 1021h, register starting at 0, high bit first, nothing inverted.
use Rattle.std.specs.Prelude.{◌≡◌, ℕ, zero, suc, ◌*◌, ◌%◌, cond, List, codes, fold, bit_xor, nat_lt}

-- one shift of the register: the bit that leaves it at the top calls for the generator
unfoldable pub shifted : ℕ → ℕ
shifted w = cond (nat_lt w 0x8000) (w * 2) (bit_xor (w * 2 % 0x10000) 0x1021)

abbrev pub shifts : ℕ → ℕ → ℕ
shifts zero w = w
shifts (suc k) w = shifted (shifts k w)

-- a byte goes in at the top of the register, and is shifted through it bit by bit
unfoldable pub fed : ℕ → ℕ → ℕ
fed w b = shifts 8 (bit_xor w (b * 0x100))

unfoldable pub check_word : List ℕ → ℕ
check_word bs = fold fed 0 bs

-- the published example
abbrev pub Example : Type 0
Example = check_word (codes "123456789") ≡ 0x31C3
