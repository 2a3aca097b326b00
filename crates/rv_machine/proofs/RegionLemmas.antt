-- Regions made of segments hold what the segments have; bytes written in one region are written in memory.
use Rattle.std.proofs.Common.{◌≡◌, ℕ, zero, suc, ◌+◌, ◌-◌, ◌<◌, ◌≤◌, Bool, true, false, nat_lt, List, [], ◌∷◌, ◌++◌, length, take, get_or, replicate, refl, sym, ◌∙◌, ap, arith, inl, inr, cond, Some, None, slice_get, ◌&&◌, nat_le, find, ◌⊎◌, slice_index, unwrap_or, option_map, subst, add-one}
use Rattle.std.proofs.Math.Seq.{take-suc}
use Rattle.std.proofs.lemmas.Option.{none-some, same_Some}
use Rattle.rv_isa.specs.Prelude.{stack_bottom, stack_top}
use Rattle.elf_file.specs.Conditions.{Mapping, Executable, holds, byte_of}
use Rattle.rv_machine.specs.declared.regions.Region.{Region}
use Rattle.rv_machine.specs.Mapped.{nothing_allowed, read_and_write, flags_or, stack_permission, permission_in, start_byte}
use Rattle.rv_machine.specs.Regions.{has_address, permission_there, byte_there, region_permission, region_byte, AllFull, Shows, ShowsAll, IsStack}

-- ---- bytes and zeros

-- zeros after a list are read past its end anyway
pub index-zeros : (xs : List ℕ) (n i : ℕ) → slice_index (xs ++ replicate n 0) i ≡ slice_index xs i
index-zeros [] zero i = refl
index-zeros [] (suc n) zero = refl
index-zeros [] (suc n) (suc i) = index-zeros [] n i
index-zeros (x ∷ xs) n zero = refl
index-zeros (x ∷ xs) n (suc i) = index-zeros xs n i

take-none : (n : ℕ) → take {A = ℕ} n [] ≡ []
take-none zero = refl
take-none (suc n) = refl

take-all : (n : ℕ) (xs : List ℕ) → length xs ≤ n → take n xs ≡ xs
take-all n [] h = take-none n
take-all zero (x ∷ xs) h = absurd (omega arith)
take-all (suc n) (x ∷ xs) h = ap (λ ys. x ∷ ys) (take-all n xs (omega arith))

pub index-filled : (old mid new bytes : List ℕ) (all from : ℕ) → old ≡ [] → mid ≡ old ++ bytes → length bytes ≤ all → new ≡ take all mid ++ replicate (all - from) 0 → (i : ℕ)
    → slice_index new i ≡ slice_index bytes i
index-filled old mid new bytes all from none copied fits filled i =
    let same : mid ≡ bytes = copied ∙ ap (λ o. o ++ bytes) none in
    let is : new ≡ bytes ++ replicate (all - from) 0 = filled ∙ ap (λ m. take all m ++ replicate (all - from) 0) same ∙ ap (λ t. t ++ replicate (all - from) 0) (take-all all bytes fits) in
    ap (λ l. slice_index l i) is ∙ index-zeros bytes (all - from) i

-- ---- regions of segments

pub ShowsAll-push : (ms : List Mapping) (rs : List Region) (m : Mapping) (r : Region) → ShowsAll ms rs → Shows m r → ShowsAll (ms ++ m ∷ []) (rs ++ r ∷ [])
ShowsAll-push [] [] m r all one = (one, tt)
ShowsAll-push [] (s ∷ rs) m r all one = absurd all
ShowsAll-push (n ∷ ms) [] m r all one = absurd all
ShowsAll-push (n ∷ ms) (s ∷ rs) m r all one = (all.0, ShowsAll-push ms rs m r all.1 one)

same_address : (m : Mapping) (r : Region) → Shows m r → (at : ℕ) → has_address at r ≡ holds at m
same_address m r shows at =
    ap (λ a. nat_le a at && nat_lt at (a + r.size)) shows.address ∙ ap (λ s. nat_le m.address at && nat_lt at (m.address + s)) shows.size

-- what is allowed: by the segments, and else by the last region
pub permission-shown : (ms : List Mapping) (rs : List Region) (last : Region) → ShowsAll ms rs → (at : ℕ)
    → region_permission (rs ++ last ∷ []) at ≡ flags_or (option_map (λ m. m.flags) (find (holds at) ms)) (region_permission (last ∷ []) at)
permission-shown [] [] last all at = refl
permission-shown [] (r ∷ rs) last all at = absurd all
permission-shown (m ∷ ms) [] last all at = absurd all
permission-shown (m ∷ ms) (r ∷ rs) last all at = shown (holds at m) refl (permission-shown ms rs last all.1 at)
  where
    shown : (b : Bool) → holds at m ≡ b
        → region_permission (rs ++ last ∷ []) at ≡ flags_or (option_map (λ m. m.flags) (find (holds at) ms)) (region_permission (last ∷ []) at)
        → region_permission ((r ∷ rs) ++ last ∷ []) at ≡ flags_or (option_map (λ m. m.flags) (find (holds at) (m ∷ ms))) (region_permission (last ∷ []) at)
    shown true e rest = rw (same_address m r all.0 at, e) all.0.permission
    shown false e rest = rw (same_address m r all.0 at, e) rest

-- what stands there: by the segments, and else by the last region
byte-shown : (ms : List Mapping) (rs : List Region) (last : Region) → ShowsAll ms rs → (at : ℕ) → region_byte (last ∷ []) at ≡ 0
    → region_byte (rs ++ last ∷ []) at ≡ unwrap_or (option_map (byte_of at) (find (holds at) ms)) 0
byte-shown [] [] last all at none = none
byte-shown [] (r ∷ rs) last all at none = absurd all
byte-shown (m ∷ ms) [] last all at none = absurd all
byte-shown (m ∷ ms) (r ∷ rs) last all at none = shown (holds at m) refl (byte-shown ms rs last all.1 at none)
  where
    shown : (b : Bool) → holds at m ≡ b → region_byte (rs ++ last ∷ []) at ≡ unwrap_or (option_map (byte_of at) (find (holds at) ms)) 0
        → region_byte ((r ∷ rs) ++ last ∷ []) at ≡ unwrap_or (option_map (byte_of at) (find (holds at) (m ∷ ms))) 0
    shown true e rest =
        rw (same_address m r all.0 at, e) (all.0.bytes (at - r.address) ∙ ap (λ a. slice_index m.file_bytes (at - a)) all.0.address)
    shown false e rest = rw (same_address m r all.0 at, e) rest

-- what the stack's region permits
stack_permits : (arguments : ℕ) (r : Region) → IsStack arguments r → (at : ℕ) → region_permission (r ∷ []) at ≡ stack_permission arguments at
stack_permits arguments r is at =
    let there : has_address at r ≡ (nat_le stack_bottom at && nat_lt at (stack_top + arguments)) =
    ap (λ a. nat_le a at && nat_lt at (a + r.size)) is.address ∙ ap (λ e. nat_le stack_bottom at && nat_lt at e) (ends r.size is.size)
    in
    both (nat_le stack_bottom at && nat_lt at (stack_top + arguments)) (has_address at r) there
  where
    ends : (s : ℕ) → s ≡ 0x80_0000 + arguments → stack_bottom + s ≡ stack_top + arguments
    ends s e = omega arith

    both : (b c : Bool) → c ≡ b → permission_there (cond c (Some r) None) ≡ cond b read_and_write nothing_allowed
    both b true e = rw (← e) is.permission
    both b false e = rw (← e) refl

stack_byte : (arguments : ℕ) (r : Region) → IsStack arguments r → (at : ℕ) → region_byte (r ∷ []) at ≡ 0
stack_byte arguments r is at = both (has_address at r)
  where
    both : (c : Bool) → byte_there at (cond c (Some r) None) ≡ 0
    both true = is.bytes (at - r.address)
    both false = refl

-- the regions of a file and the stack are the memory at the start
pub permission-start : (x : Executable) (arguments : ℕ) (rs all : List Region) (last : Region) → ShowsAll x.mappings rs → IsStack arguments last → all ≡ rs ++ last ∷ [] → (at : ℕ)
    → region_permission all at ≡ permission_in x arguments at
permission-start x arguments rs all last shows is e at =
    ap (λ l. region_permission l at) e ∙ permission-shown x.mappings rs last shows at ∙ ap (flags_or (option_map (λ m. m.flags) (find (holds at) x.mappings))) (stack_permits arguments last is at)

pub byte-start : (x : Executable) (arguments : ℕ) (rs all : List Region) (last : Region) → ShowsAll x.mappings rs → IsStack arguments last → all ≡ rs ++ last ∷ [] → (at : ℕ)
    → region_byte all at ≡ start_byte x at
byte-start x arguments rs all last shows is e at =
    ap (λ l. region_byte l at) e ∙ byte-shown x.mappings rs last shows at (stack_byte arguments last is at)

-- an element of a list with one more at its end is one of the list, or the last
slice_get-push : {X : Type 0} (xs : List X) (y : X) (k : ℕ) (x : X) → slice_get (xs ++ y ∷ []) k ≡ Some x → (slice_get xs k ≡ Some x) ⊎ (y ≡ x)
slice_get-push [] y zero x e = inr (same_Some y x e)
slice_get-push [] y (suc k) x e = absurd (none-some x e)
slice_get-push (z ∷ zs) y zero x e = inl e
slice_get-push (z ∷ zs) y (suc k) x e = slice_get-push zs y k x e

full-push : (rs : List Region) (r : Region) → AllFull rs → length r.bytes.items ≡ r.size → AllFull (rs ++ r ∷ [])
full-push rs r all one = λ k s e. elim (slice_get-push rs r k s e) [
  | inl h ↦ all k s h
  | inr same ↦ (let P : Region → Type 0 = λ q. length q.bytes.items ≡ q.size in subst P same one)
]

-- one segment more: the loop's step
pub segments-more : (ms : List Mapping) (k : ℕ) (m : Mapping) (rs new : List Region) (r : Region) (whole : Bool) → k < length ms → m ≡ get_or ms k m
    → ShowsAll (take k ms) rs × (whole ≡ true → AllFull rs)
    → new ≡ rs ++ r ∷ []
    → Shows m r
    → (whole ≡ true → length r.bytes.items ≡ r.size)
    → ShowsAll (take (k + 1) ms) new × (whole ≡ true → AllFull new)
segments-more ms k m rs new r whole within is before pushed shows full =
    let more : take (k + 1) ms ≡ take k ms ++ m ∷ [] = rw add-one (take-suc ms k m within ∙ ap (λ x. take k ms ++ x ∷ []) (sym is)) in
    (rw (more, pushed) (ShowsAll-push (take k ms) rs m r before.0 shows), λ w. rw pushed (full-push rs r (before.1 w) (full w)))

pub full-both : (rs new : List Region) (r : Region) (whole : Bool) → new ≡ rs ++ r ∷ [] → (whole ≡ true → AllFull rs) → (whole ≡ true → length r.bytes.items ≡ r.size) → whole ≡ true → AllFull new
full-both rs new r whole pushed all one w = rw pushed (full-push rs r (all w) (one w))

pub shows-same : (ms ns : List Mapping) (rs : List Region) → ms ≡ ns → ShowsAll ms rs → ShowsAll ns rs
shows-same ms ns rs e h = subst (λ l. ShowsAll l rs) e h
