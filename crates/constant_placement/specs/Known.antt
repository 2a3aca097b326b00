-- Which registers are known to hold numbers at the ends of blocks, by what is planned of blocks.
use Rattle.std.specs.Prelude.{ℕ, Bool, true, false, ◌&&◌, nat_eq, if◌then◌else◌, List, [], ◌∷◌, slice_get, ◌≡◌, ◌+◌, nat_lt, ◌++◌, map, take, drop}
use Rattle.std.specs.List.{list_all, list_any}
use Rattle.std.specs.Option.{option_map_or}
use Rattle.vcode.specs.declared.place.Operand.TheVariants.{Number}
use Rattle.vcode.specs.declared.line.Line.{Line}
use Rattle.vcode.specs.declared.line.Line.TheVariants.{Set}
use Rattle.vcode.specs.declared.line.Jump.{Jump}
use Rattle.vcode.specs.declared.line.Jump.TheVariants.{Goto, Branch, Return, Halt}
use Rattle.vcode.specs.Prelude.{line_writes, is_paid}
use Rattle.constant_placement.specs.declared.sinking.known.Known.{Known}
use Rattle.constant_placement.specs.declared.sinking.known.Plan.{Plan}
use Rattle.vcode.specs.declared.code.Block.{Block}

-- the same register, and the same number
abbrev pub same : Known → Known → Bool
same s t = nat_eq s.register t.register && nat_eq s.number t.number

-- the plan has it
abbrev pub is_planned : (plan : List Known) → Known → Bool
is_planned plan s = list_any (same s) plan

-- the line sets its register to the number
abbrev pub sets : Line ℕ → (number : ℕ) → Bool
sets (Set to (Number k)) n = nat_eq k n
sets l n = false

-- it is known behind a line: the line sets it, or leaves a register of which it was known
abbrev pub known_behind : Line ℕ → Known → (known : Bool) → Bool
known_behind l s known =
    option_map_or (λ r. if nat_eq r s.register then sets l s.number else known) (line_writes l) known

-- it is known behind lines
abbrev pub known_at_end : List (Line ℕ) → Known → (known : Bool) → Bool
known_at_end [] s known = known
known_at_end (l ∷ lines) s known = known_at_end lines s (known_behind l s known)

-- all that is planned stays known behind lines
abbrev pub stay_known : List (Line ℕ) → (plan : List Known) → Bool
stay_known lines plan = list_all (λ s. known_at_end lines s true) plan

-- what the block is to set
abbrev pub plan_at : List Plan → (block : ℕ) → List Known
plan_at plans k = option_map_or (λ (plan : Plan). plan.sets) (slice_get plans k) []

-- all that is wanted is known behind the lines, in front of which the plan is known
abbrev pub are_known : (plan : List Known) → List (Line ℕ) → (wanted : List Known) → Bool
are_known plan lines wanted =
    list_all (λ s. known_at_end lines s (is_planned plan s)) wanted

-- what is planned of each block to which the jump may lead is known there
abbrev pub leads_well : (plans : List Plan) → (plan : List Known) → List (Line ℕ) → Jump ℕ → Bool
leads_well plans plan lines (Goto k) = are_known plan lines (plan_at plans k)
leads_well plans plan lines (Branch on met otherwise) =
    are_known plan lines (plan_at plans met) && are_known plan lines (plan_at plans otherwise)
leads_well plans plan lines (Return a) = true
leads_well plans plan lines Halt = true

-- ---- blocks that set registers that are known to hold what they are set to

-- the line that sets the register to the number
abbrev pub set_line : Known → Line ℕ
set_line s = Set s.register (Number s.number)

-- these are set behind so many lines
abbrev pub with_sets : ℕ → (plan : List Known) → List (Line ℕ) → List (Line ℕ)
with_sets n plan lines = take n lines ++ (map set_line plan ++ drop n lines)

-- the function has the register
abbrev pub is_low : (registers : ℕ) → Known → Bool
is_low registers s = nat_lt s.register registers

-- a block that sets what is planned of it and stays known so far, and its ticks pay for that; or the
-- block as it was
pub data Sinks (registers : ℕ) (plan : List Known) (b d : Block ℕ) : Type 0 where
  Sets : (n : ℕ) → list_all (is_low registers) plan ≡ true → stay_known (take n b.lines) plan ≡ true → d.lines ≡ with_sets n plan b.lines → d.jump ≡ b.jump → is_paid d ≡ true → Sinks registers plan b d
  Stays : d.lines ≡ b.lines → d.jump ≡ b.jump → Sinks registers plan b d

-- ... at whose end is known what is planned of the blocks behind it
pub record IsSunk (registers : ℕ) (plans : List Plan) (k : ℕ) (b d : Block ℕ) : Type 0 where
  pub sinks : Sinks registers (plan_at plans k) b d
  pub leads : leads_well plans (plan_at plans k) b.lines b.jump ≡ true

-- blocks from this one on
abbrev pub AllSunk : (registers : ℕ) → (plans : List Plan) → ℕ →
    (blocks new : List (Block ℕ)) → Type 0
AllSunk registers plans k [] [] = Unit {0}
AllSunk registers plans k [] (d ∷ new) = ⊥
AllSunk registers plans k (b ∷ blocks) [] = ⊥
AllSunk registers plans k (b ∷ blocks) (d ∷ new) =
    IsSunk registers plans k b d × AllSunk registers plans (k + 1) blocks new
