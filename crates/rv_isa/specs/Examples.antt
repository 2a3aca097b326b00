-- What the definitions give in the manual's corner cases.
use Rattle.std.specs.Prelude.{◌≡◌, ◌-◌, ◌^◌, pos, negsuc}
use Rattle.rv_isa.specs.Arithmetic.{reg_value, regw_value, imm_value, addiw_value, moved}
use Rattle.rv_isa.specs.Step.{load_value, even_below}
use Rattle.rv_isa.specs.Types.{Lb, Lbu, Sltiu, Sll, Sra, Mulh, Mulhsu, Mulhu, Div, Rem, Addw, Sllw, Divw, Divuw, Remw, Remuw}

pub record Examples : Type 0 where
  -- "Division Operations", the table of division by zero and of signed overflow
  pub division_by_zero : reg_value Div 7 0 ≡ 2 ^ 64 - 1
  pub remainder_by_zero : reg_value Rem (2 ^ 64 - 7) 0 ≡ 2 ^ 64 - 7
  pub overflowing_quotient : reg_value Div (2 ^ 63) (2 ^ 64 - 1) ≡ 2 ^ 63
  pub overflowing_remainder : reg_value Rem (2 ^ 63) (2 ^ 64 - 1) ≡ 0
  pub word_division_by_zero : regw_value Divuw 7 0 ≡ 2 ^ 64 - 1
  pub word_remainder_by_zero : regw_value Remuw 0x8000_0001 0 ≡ 0xffff_ffff_8000_0001
  pub overflowing_word_quotient : regw_value Divw 0x8000_0000 0xffff_ffff ≡ 0xffff_ffff_8000_0000
  pub overflowing_word_remainder : regw_value Remw 0x8000_0000 0xffff_ffff ≡ 0
  -- -7 / 2 is -3, and -7 - 2 * -3 is -1
  pub division_toward_zero : reg_value Div (2 ^ 64 - 7) 2 ≡ 2 ^ 64 - 3
  pub remainder_of_dividend : reg_value Rem (2 ^ 64 - 7) 2 ≡ 2 ^ 64 - 1
  -- the high halves of products of the greatest words
  pub high_of_signed : reg_value Mulh (2 ^ 64 - 1) (2 ^ 64 - 1) ≡ 0
  pub high_of_signed_by_unsigned : reg_value Mulhsu (2 ^ 64 - 1) (2 ^ 64 - 1) ≡ 2 ^ 64 - 1
  pub high_of_unsigned : reg_value Mulhu (2 ^ 64 - 1) (2 ^ 64 - 1) ≡ 2 ^ 64 - 2
  -- shifts take 6 bits of the amount, and 5 for words
  pub shift_by_65 : reg_value Sll 1 65 ≡ 2
  pub word_shift_by_33 : regw_value Sllw 1 33 ≡ 2
  pub shift_right_signed : reg_value Sra (2 ^ 63) 63 ≡ 2 ^ 64 - 1
  pub word_sum : regw_value Addw 0x7fff_ffff 1 ≡ 0xffff_ffff_8000_0000
  -- sltiu compares with the sign-extended immediate as an unsigned word
  pub below_immediate : imm_value Sltiu 5 (negsuc 0) ≡ 1
  pub word_immediate : addiw_value 0 (negsuc 0) ≡ 2 ^ 64 - 1
  pub loaded_byte : load_value Lb 0x80 ≡ 0xffff_ffff_ffff_ff80
  pub loaded_unsigned_byte : load_value Lbu 0x80 ≡ 0x80
  pub cleared_bit : even_below (moved 0x10003 (pos 2)) ≡ 0x10004
