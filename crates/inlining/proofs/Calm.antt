-- The lines of a candidate, whether or not a turn began before them: none makes a block of memory.
use Rattle.std.proofs.Common.{◌≡◌, ℕ, Bool, true, false, ◌||◌, List, [], ◌∷◌, refl}
use Rattle.std.specs.List.{list_all}
use Rattle.std.proofs.lemmas.Bool.{and_parts, and_from}
use Rattle.vcode.specs.declared.line.Line.{Line}
use Rattle.vcode.specs.declared.line.Line.TheVariants.{Tick, Set, Operate, Load, Store, Alloc, Blit, Call}
use Rattle.vcode.specs.declared.code.Block.{Block}
use Rattle.vcode.specs.declared.code.Code.{Code}
use Rattle.inlining.specs.InPlace.{begins_turn, is_calm, calm_behind, is_candidate}
use Rattle.inlining.proofs.Listing.{all_weaker}

-- a line makes no block of memory
abbrev pub makes_none : Line ℕ → Bool
makes_none l = is_calm true l

calm_line : (turned : Bool) (l : Line ℕ) → is_calm turned l ≡ true → makes_none l ≡ true
calm_line turned (Tick turn w) h = refl
calm_line turned (Set to a) h = refl
calm_line turned (Operate to op a b) h = refl
calm_line turned (Load to op at) h = refl
calm_line turned (Store size a at) h = refl
calm_line turned (Alloc to size) h = h
calm_line turned (Blit from to count) h = refl
calm_line turned (Call to callee args) h = refl

calm_lines : (turned : Bool) (ls : List (Line ℕ)) → calm_behind turned ls ≡ true → list_all makes_none ls ≡ true
calm_lines turned [] h = refl
calm_lines turned (l ∷ ls) h =
    let s = and_parts (is_calm turned l) (calm_behind (turned || begins_turn l) ls) h in
    and_from (makes_none l) (list_all makes_none ls) (calm_line turned l s.0) (calm_lines (turned || begins_turn l) ls s.1)

pub candidate_makes_none : (f : Code ℕ) → is_candidate f ≡ true → list_all (λ (b : Block ℕ). list_all makes_none b.lines) f.blocks ≡ true
candidate_makes_none f h =
    all_weaker (λ (b : Block ℕ). calm_behind false b.lines) (λ (b : Block ℕ). list_all makes_none b.lines) (λ b e. calm_lines false b.lines e) f.blocks h
