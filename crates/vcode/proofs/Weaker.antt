-- Code whose places pass one test passes another that asks less.
use Rattle.std.proofs.Common.{◌≡◌, ℕ, ◌≤◌, Bool, true, ◌&&◌, List, [], ◌∷◌, Option, Some, None, refl, arith}
use Rattle.std.specs.List.{list_all}
use Rattle.std.proofs.lemmas.Bool.{and_parts, and_from}
use Rattle.std.proofs.lemmas.Bool.Decides.{nat_tests}
use Rattle.vcode.specs.Prelude.{Operand, At, Number, Name, Destination, Argument, Line, Tick, Set, Operate, Load, Store, Alloc, Blit, Call, Jump, Goto, Branch, Return, Halt, Block, operand_keeps, wanted_keeps, made_keeps, line_keeps, jump_keeps, block_keeps, is_below}

-- names that pass one test pass another
module _ (p q : ℕ → Bool) (more : (r : ℕ) → p r ≡ true → q r ≡ true) where
  pub operand_weaker : (a : Operand ℕ) → operand_keeps p a ≡ true → operand_keeps q a ≡ true
  operand_weaker (At r) h = more r h
  operand_weaker (Number n) h = refl
  operand_weaker (Name g) h = refl

  args_weaker : (args : List (Argument ℕ)) → list_all (λ (a : Argument ℕ). operand_keeps p a.value) args ≡ true → list_all (λ (a : Argument ℕ). operand_keeps q a.value) args ≡ true
  args_weaker [] h = refl
  args_weaker (a ∷ args) h =
      let s = and_parts (operand_keeps p a.value) (list_all (λ (b : Argument ℕ). operand_keeps p b.value) args) h in
      and_from (operand_keeps q a.value) (list_all (λ (b : Argument ℕ). operand_keeps q b.value) args) (operand_weaker a.value s.0) (args_weaker args s.1)

  pub wanted_weaker : (to : Option (Destination ℕ)) → wanted_keeps p to ≡ true → wanted_keeps q to ≡ true
  wanted_weaker None h = refl
  wanted_weaker (Some d) h = more d.place h

  made_weaker : (to : Option ℕ) → made_keeps p to ≡ true → made_keeps q to ≡ true
  made_weaker None h = refl
  made_weaker (Some r) h = more r h

  pub line_weaker : (l : Line ℕ) → line_keeps p l ≡ true → line_keeps q l ≡ true
  line_weaker (Tick turn w) h = refl
  line_weaker (Set to a) h =
      let s = and_parts (p to) (operand_keeps p a) h in and_from (q to) (operand_keeps q a) (more to s.0) (operand_weaker a s.1)
  line_weaker (Operate to op a b) h =
      let s = and_parts (p to) (operand_keeps p a && operand_keeps p b) h in
      let t = and_parts (operand_keeps p a) (operand_keeps p b) s.1 in
      and_from (q to) (operand_keeps q a && operand_keeps q b) (more to s.0) (and_from (operand_keeps q a) (operand_keeps q b) (operand_weaker a t.0) (operand_weaker b t.1))
  line_weaker (Load to op at) h =
      let s = and_parts (p to) (operand_keeps p at.base) h in and_from (q to) (operand_keeps q at.base) (more to s.0) (operand_weaker at.base s.1)
  line_weaker (Store size a at) h =
      let s = and_parts (operand_keeps p a) (operand_keeps p at.base) h in
      and_from (operand_keeps q a) (operand_keeps q at.base) (operand_weaker a s.0) (operand_weaker at.base s.1)
  line_weaker (Alloc to size) h = made_weaker to h
  line_weaker (Blit from to count) h =
      let s = and_parts (operand_keeps p from) (operand_keeps p to) h in
      and_from (operand_keeps q from) (operand_keeps q to) (operand_weaker from s.0) (operand_weaker to s.1)
  line_weaker (Call to callee args) h =
      let s = and_parts (wanted_keeps p to) (operand_keeps p callee && list_all (λ (a : Argument ℕ). operand_keeps p a.value) args) h in
      let t = and_parts (operand_keeps p callee) (list_all (λ (a : Argument ℕ). operand_keeps p a.value) args) s.1 in
      and_from (wanted_keeps q to) (operand_keeps q callee && list_all (λ (a : Argument ℕ). operand_keeps q a.value) args) (wanted_weaker to s.0)
      (and_from (operand_keeps q callee) (list_all (λ (a : Argument ℕ). operand_keeps q a.value) args) (operand_weaker callee t.0)
      (args_weaker args t.1))

  pub jump_weaker : (j : Jump ℕ) → jump_keeps p j ≡ true → jump_keeps q j ≡ true
  jump_weaker (Goto k) h = refl
  jump_weaker (Branch on met otherwise) h =
      let s = and_parts (operand_keeps p on.left) (operand_keeps p on.right) h in
      and_from (operand_keeps q on.left) (operand_keeps q on.right) (operand_weaker on.left s.0) (operand_weaker on.right s.1)
  jump_weaker (Return None) h = refl
  jump_weaker (Return (Some a)) h = operand_weaker a.value h
  jump_weaker Halt h = refl

  pub lines_weaker : (lines : List (Line ℕ)) → list_all (line_keeps p) lines ≡ true → list_all (line_keeps q) lines ≡ true
  lines_weaker [] h = refl
  lines_weaker (l ∷ lines) h =
      let s = and_parts (line_keeps p l) (list_all (line_keeps p) lines) h in and_from (line_keeps q l) (list_all (line_keeps q) lines) (line_weaker l s.0) (lines_weaker lines s.1)

  pub block_weaker : (b : Block ℕ) → block_keeps p b ≡ true → block_keeps q b ≡ true
  block_weaker b h =
      let s = and_parts (list_all (line_keeps p) b.lines) (jump_keeps p b.jump) h in
      and_from (list_all (line_keeps q) b.lines) (jump_keeps q b.jump) (lines_weaker b.lines s.0) (jump_weaker b.jump s.1)

pub below_more : (n m : ℕ) → n ≤ m → (r : ℕ) → is_below n r ≡ true → is_below m r ≡ true
below_more n m le r h = grind (arith, nat_tests)
