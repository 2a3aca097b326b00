-- Blocks that are read one after another, where one without a jump goes to the next.
use Rattle.std.proofs.Common.{◌≡◌, ℕ, suc, ◌+◌, ◌-◌, ◌<◌, length, true, cond, List, [], ◌∷◌, ◌++◌, Option, Some, None, refl, sym, ap, ◌∙◌, append_assoc, option_and_then}
use Rattle.std.proofs.lemmas.Option.{some_pair_parts}
use Rattle.il_ast.specs.declared.block.Block.{Block}
use Rattle.il_reader.specs.Prelude.{State, falling, Step, ◌>>=◌, repeated, sees, is_label, block, blocks, fell, next_fallen, fallen, falling_blocks}
use Rattle.il_reader.proofs.Rounds.{less_one}

abbrev put_before : Block → Option (List Block × State) → Option (List Block × State)
put_before b o = option_and_then (λ (xs : List Block × State). Some (b ∷ xs.0, xs.1)) o

put_fallen : (bs : List Block) (last next : Block) (o : Option (List Block × State))
    → fallen bs last (put_before next o) ≡ fallen (bs ++ fell last next ∷ []) next o
put_fallen bs last next None = refl
put_fallen bs last next (Some x) = ap (λ ys. Some (ys, x.1)) (sym (append_assoc bs (fell last next ∷ []) (falling (next ∷ x.0))))

one_fallen : (bs cs : List Block) (last next : Block) (o : Option (Block × State)) (t : State) (more : Step (List Block))
    → next_fallen bs last o ≡ Some ((cs, next), t)
    → fallen bs last (option_and_then (λ (x : Block × State). put_before x.0 (more x.1)) o) ≡ fallen cs next (more t)
one_fallen bs cs last next None t more e = let h : None ≡ Some ((cs, next), t) = e in cc
one_fallen bs cs last next (Some x) t more e =
    let same = some_pair_parts (bs ++ fell last x.0 ∷ [], x.0) (cs, next) x.1 t e in
    let F = λ (p : List Block × Block). fallen p.0 p.1 (more x.1) in
    put_fallen bs last x.0 (more x.1) ∙ ap F same.0 ∙ ap (λ s. fallen cs next (more s)) same.1

pub fallen_more : (n i : ℕ) (bs cs : List Block) (last next : Block) (s t : State)
    → i < n → sees is_label s ≡ true → next_fallen bs last (block s) ≡ Some ((cs, next), t)
    → fallen bs last (repeated (n - i) (sees is_label) block s) ≡ fallen cs next (repeated (n - (i + 1)) (sees is_label) block t)
fallen_more n i bs cs last next s t h l e =
    let k = n - (i + 1) in
    let read = option_and_then (λ (x : Block × State). put_before x.0 (repeated k (sees is_label) block x.1)) (block s) in
    ap (λ m. fallen bs last (repeated m (sees is_label) block s)) (less_one n i h)
    ∙ ap (λ b. fallen bs last (cond b read (Some ([], s)))) l
    ∙ one_fallen bs cs last next (block s) t (repeated k (sees is_label) block) e

fallen_list : (b : Block) (o : Option (List Block × State))
    → option_and_then (λ (x : List Block × State). Some (falling x.0, x.1)) (put_before b o) ≡ fallen [] b o
fallen_list b None = refl
fallen_list b (Some x) = refl

-- the first of the blocks
pub falling_from : (s m : State) (b : Block) → block s ≡ Some (b, m)
    → falling_blocks s ≡ fallen [] b (repeated (suc (length m.rest)) (sees is_label) block m)
falling_from s m b e =
    let more = λ (t : State). repeated (suc (length t.rest)) (sees is_label) block t in
    let read = λ (o : Option (Block × State)). option_and_then (λ (x : Block × State). put_before x.0 (more x.1)) o in
    ap (λ o. option_and_then (λ (x : List Block × State). Some (falling x.0, x.1)) (read o)) e
    ∙ fallen_list b (more m)

first_fallen : {B : Type 0} (f : List Block → Step B) (o : Option (List Block × State))
    → option_and_then (λ (x : List Block × State). f (falling x.0) x.1) o
    ≡ option_and_then (λ (x : List Block × State). f x.0 x.1) (option_and_then (λ (x : List Block × State). Some (falling x.0, x.1)) o)
first_fallen f None = refl
first_fallen f (Some x) = refl

pub falling_then : {B : Type 0} (f : List Block → Step B) (s : State) → ◌>>=◌ blocks (λ bs. f (falling bs)) s ≡ ◌>>=◌ falling_blocks f s
falling_then f s = first_fallen f (blocks s)
