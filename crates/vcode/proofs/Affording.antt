-- What lines pay for, one line further.
use Rattle.std.proofs.Common.{◌≡◌, ℕ, ◌+◌, ◌-◌, ◌*◌, Bool, true, false, ◌&&◌, nat_le, if◌then◌else◌, List, ◌∷◌, Some, None, refl, sym, ap}
use Rattle.vcode.specs.Prelude.{Line, Tick, Set, Operate, Load, Store, Alloc, Blit, Call, Jump, line_cost, affords, spent}

after_cost : {P : Type 0} (cost credit left : ℕ) (j : Jump P) (rest : List (Line P)) (b : Bool) → (if b then Some (credit - cost) else None) ≡ Some left → affords left j rest ≡ (b && affords (credit - cost) j rest)
after_cost cost credit left j rest true h = ap (λ k. affords k j rest) (let same : credit - cost ≡ left = cc in sym same)
after_cost cost credit left j rest false h = absurd (let no : ⊥ = cc in no)

pub after_line : {P : Type 0} (credit left : ℕ) (j : Jump P) (l : Line P) (rest : List (Line P)) → spent credit l ≡ Some left → affords left j rest ≡ affords credit j (l ∷ rest)
after_line credit left j (Tick turn w) rest h = ap (λ k. affords k j rest) (let same : credit + 32 * w ≡ left = cc in sym same)
after_line credit left j (Set to a) rest h = let l = Set to a in after_cost (line_cost l) credit left j rest (nat_le (line_cost l) credit) h
after_line credit left j (Operate to op a b) rest h = let l = Operate to op a b in after_cost (line_cost l) credit left j rest (nat_le (line_cost l) credit) h
after_line credit left j (Load to op at) rest h = let l = Load to op at in after_cost (line_cost l) credit left j rest (nat_le (line_cost l) credit) h
after_line credit left j (Store size a at) rest h = let l = Store size a at in after_cost (line_cost l) credit left j rest (nat_le (line_cost l) credit) h
after_line {P} credit left j (Alloc to size) rest h = let l : Line P = Alloc to size in after_cost (line_cost l) credit left j rest (nat_le (line_cost l) credit) h
after_line credit left j (Blit from to count) rest h = let l = Blit from to count in after_cost (line_cost l) credit left j rest (nat_le (line_cost l) credit) h
after_line credit left j (Call to callee args) rest h = let l = Call to callee args in after_cost (line_cost l) credit left j rest (nat_le (line_cost l) credit) h

short_of : (cost credit : ℕ) (b c : Bool) → (if b then Some (credit - cost) else None) ≡ None → (b && c) ≡ false
short_of cost credit true c h = absurd (let no : ⊥ = cc in no)
short_of cost credit false c h = refl

-- what can't be spent isn't afforded
pub not_after : {P : Type 0} (credit : ℕ) (j : Jump P) (l : Line P) (rest : List (Line P)) → spent credit l ≡ None → affords credit j (l ∷ rest) ≡ false
not_after credit j (Tick turn w) rest h = absurd (let no : ⊥ = cc in no)
not_after credit j (Set to a) rest h = let l = Set to a in short_of (line_cost l) credit (nat_le (line_cost l) credit) (affords (credit - line_cost l) j rest) h
not_after credit j (Operate to op a b) rest h = let l = Operate to op a b in short_of (line_cost l) credit (nat_le (line_cost l) credit) (affords (credit - line_cost l) j rest) h
not_after credit j (Load to op at) rest h = let l = Load to op at in short_of (line_cost l) credit (nat_le (line_cost l) credit) (affords (credit - line_cost l) j rest) h
not_after credit j (Store size a at) rest h = let l = Store size a at in short_of (line_cost l) credit (nat_le (line_cost l) credit) (affords (credit - line_cost l) j rest) h
not_after {P} credit j (Alloc to size) rest h = let l : Line P = Alloc to size in short_of (line_cost l) credit (nat_le (line_cost l) credit) (affords (credit - line_cost l) j rest) h
not_after credit j (Blit from to count) rest h = let l = Blit from to count in short_of (line_cost l) credit (nat_le (line_cost l) credit) (affords (credit - line_cost l) j rest) h
not_after credit j (Call to callee args) rest h = let l = Call to callee args in short_of (line_cost l) credit (nat_le (line_cost l) credit) (affords (credit - line_cost l) j rest) h
