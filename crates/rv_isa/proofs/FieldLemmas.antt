-- What is read from a word that was joined from six fields.
use Rattle.std.proofs.Common.{◌≡◌, ℕ, ◌+◌, ◌*◌, ◌/◌, ◌%◌, ◌<◌, arith}
use Rattle.rv_isa.specs.Prelude.{part, joined}

-- the parts of w that some format reads, from its six fields
pub record Reads (w opcode rd funct3 rs1 rs2 funct7 : ℕ) : Type 0 where
  pub is6_0 : part w 6 0 ≡ opcode
  pub is11_7 : part w 11 7 ≡ rd
  pub is14_12 : part w 14 12 ≡ funct3
  pub is19_15 : part w 19 15 ≡ rs1
  pub is24_20 : part w 24 20 ≡ rs2
  pub is31_25 : part w 31 25 ≡ funct7
  pub is31_20 : part w 31 20 ≡ rs2 + funct7 * 32
  pub is31_12 : part w 31 12 ≡ funct3 + rs1 * 8 + rs2 * 256 + funct7 * 8192
  pub is25_20 : part w 25 20 ≡ rs2 + funct7 % 2 * 32
  pub is31_26 : part w 31 26 ≡ funct7 / 2
  pub is31_31 : part w 31 31 ≡ funct7 / 64
  pub is30_25 : part w 30 25 ≡ funct7 % 64
  pub is7_7 : part w 7 7 ≡ rd % 2
  pub is11_8 : part w 11 8 ≡ rd / 2
  pub is19_12 : part w 19 12 ≡ funct3 + rs1 * 8
  pub is20_20 : part w 20 20 ≡ rs2 % 2
  pub is30_21 : part w 30 21 ≡ rs2 / 2 + funct7 % 64 * 16

pub reads_joined : (opcode rd funct3 rs1 rs2 funct7 : ℕ) → opcode < 128 → rd < 32 → funct3 < 8 → rs1 < 32 → rs2 < 32 → funct7 < 128
    → Reads (joined opcode rd funct3 rs1 rs2 funct7) opcode rd funct3 rs1 rs2 funct7
reads_joined opcode rd funct3 rs1 rs2 funct7 h1 h2 h3 h4 h5 h6 = record {
  is6_0 = omega arith;
  is11_7 = omega arith;
  is14_12 = omega arith;
  is19_15 = omega arith;
  is24_20 = omega arith;
  is31_25 = omega arith;
  is31_20 = omega arith;
  is31_12 = omega arith;
  is25_20 = omega arith;
  is31_26 = omega arith;
  is31_31 = omega arith;
  is30_25 = omega arith;
  is7_7 = omega arith;
  is11_8 = omega arith;
  is19_12 = omega arith;
  is20_20 = omega arith;
  is30_21 = omega arith;
}
