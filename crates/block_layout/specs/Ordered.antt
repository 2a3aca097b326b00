-- Code with its blocks in another order, of which some may be left out.
use Rattle.std.specs.Prelude.{◌≡◌, ℕ, suc, Bool, true, not, ◌&&◌, nat_eq, nat_lt, if◌then◌else◌, List, [], ◌∷◌, map, length, slice_get, unwrap_or}
use Rattle.std.specs.List.{list_all, list_any}
use Rattle.vcode.specs.declared.line.Jump.{Jump}
use Rattle.vcode.specs.declared.line.Jump.TheVariants.{Goto, Branch, Return, Halt}
use Rattle.vcode.specs.declared.code.Block.{Block}
use Rattle.vcode.specs.declared.code.Code.{Code}
use Rattle.vcode.specs.declared.function.VFunc.{VFunc}

-- an order names blocks by their places in the code
abbrev pub Order : Type 0
Order = List ℕ

-- the place in the order at which a block stands, from 0; of one that isn't named, the first place
-- past the end
abbrev pub place_in : Order → ℕ → ℕ
place_in [] k = 0
place_in (j ∷ order) k = if nat_eq j k then 0 else suc (place_in order k)

abbrev pub is_named : Order → ℕ → Bool
is_named order k = list_any (λ j. nat_eq j k) order

-- the block of that number; past the end one that halts
abbrev pub block_at : List (Block ℕ) → ℕ → Block ℕ
block_at blocks k = unwrap_or (slice_get blocks k) (record { lines = []; jump = Halt })

-- ---- the code in an order

-- a jump to where its targets stand in the order
abbrev pub led : Order → Jump ℕ → Jump ℕ
led order (Goto k) = Goto (place_in order k)
led order (Branch on met otherwise) = Branch on (place_in order met) (place_in order otherwise)
led order (Return a) = Return a
led order Halt = Halt

abbrev pub placed : Order → Block ℕ → Block ℕ
placed order b = record { lines = b.lines; jump = led order b.jump }

abbrev pub in_order : Order → Code ℕ → Code ℕ
in_order order f =
    record {
      result = f.result;
      params = f.params;
      blocks = map (λ k. placed order (block_at f.blocks k)) order;
    }

-- ---- what an order is

-- the first block comes first, where there is one
abbrev pub begins : (blocks : ℕ) → Order → Bool
begins blocks [] = nat_eq blocks 0
begins blocks (k ∷ order) = nat_eq k 0

abbrev pub names_once : Order → Bool
names_once [] = true
names_once (k ∷ order) = not (is_named order k) && names_once order

-- all blocks that a jump may lead to are named
abbrev pub leads_within : Order → Jump ℕ → Bool
leads_within order (Goto k) = is_named order k
leads_within order (Branch on met otherwise) = is_named order met && is_named order otherwise
leads_within order j = true

-- it begins with the first block, names no block twice, and names only blocks of the code, with
-- each block that one of them leads to
abbrev pub is_order : Order → Code ℕ → Bool
is_order order f =
    begins (length f.blocks) order
    && ((names_once order && list_all (λ k. nat_lt k (length f.blocks)) order)
    && list_all (λ k. leads_within order (block_at f.blocks k).jump) order)

-- the second function is the first with its blocks in an order
pub record IsOrdered (v w : VFunc) : Type 0 where
  pub order : Order
  pub is : is_order order v.code ≡ true
  pub code : w.code ≡ in_order order v.code
  pub registers : w.registers ≡ v.registers

-- ---- places of blocks as they are kept

-- what a list has at the block's number, where it has anything; past its end, where nothing stands
-- in the order
abbrev pub kept_place : Order → List ℕ → ℕ → ℕ
kept_place order places k = unwrap_or (slice_get places k) (length order)

-- nothing stands anywhere yet
abbrev pub AreUnset : Order → List ℕ → Type 0
AreUnset order places = (k : ℕ) → kept_place order places k ≡ length order

abbrev pub ArePlaces : Order → List ℕ → Type 0
ArePlaces order places = (k : ℕ) → kept_place order places k ≡ place_in order k

-- the order names blocks that are there, and none twice
abbrev pub names_blocks : Order → (blocks : ℕ) → Bool
names_blocks order blocks = names_once order && list_all (λ k. nat_lt k blocks) order
