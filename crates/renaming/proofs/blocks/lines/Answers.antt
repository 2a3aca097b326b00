use Rattle.std.proofs.Common.{◌≡◌, ℕ, suc, ◌+◌, List, [], ◌∷◌, ◌++◌, take, sym, ◌∙◌, ap, subst, arith, rules}
use Rattle.std.proofs.Math.Seq.{take-suc}
use Rattle.vcode.specs.declared.line.Line.{Line}
use Rattle.renaming.specs.Renamed.{Owners, IsRenamed, AreRenamed, NoLines, OneMore, owners_of, names_of}
use Rattle.renaming.proofs.blocks.lines.Goals as goal

pub loop-number-init : goal.loop-number-init
loop-number-init c =
    record {
      lines = subst (λ (xs : List (Line ℕ)). AreRenamed (owners_of c.args.names.now) (names_of c.args.names.now) [] xs (names_of c.args.names.now)) (sym c.in_ok-made.ensures.items) NoLines;
      owners = search rules;
    }

pub loop-number-preserved : goal.loop-number-preserved
loop-number-preserved c =
    let o : Owners = owners_of c.args.names.now in
    let n : ℕ = c.loop-number.number in
    let l : Line ℕ = c.index-from-number.result in
    let m : Line ℕ = c.in-Some.put in
    let from : List (Line ℕ) = c.args.from.now in
    let taken : take (n + 1) from ≡ take n from ++ l ∷ [] =
    (let e : n + 1 ≡ suc n = omega arith in ap (λ i. take i from) e) ∙ take-suc from n l c.loop-number-test.true ∙ ap (λ (x : Line ℕ). take n from ++ x ∷ []) (sym c.index-from-number.is) in
    let one : IsRenamed (owners_of c.loop-number.names) (names_of c.loop-number.names) l m (names_of c.line.new.names) = search rules in
    let own : IsRenamed o (names_of c.loop-number.names) l m (names_of c.line.new.names) =
    subst (λ (x : Owners). IsRenamed x (names_of c.loop-number.names) l m (names_of c.line.new.names)) c.loop-number.invariant.owners one in
    record {
      lines =
          subst (λ (xs : List (Line ℕ)). AreRenamed o (names_of c.args.names.now) xs c.push.new.self.items (names_of c.line.new.names)) (sym taken)
          (subst (λ (ys : List (Line ℕ)). AreRenamed o (names_of c.args.names.now) (take n from ++ l ∷ []) ys (names_of c.line.new.names)) (sym c.in_ok-push-in-Some.ensures.items)
          (OneMore c.loop-number.invariant.lines own));
      owners = c.in_ok-put.ensures.owners ∙ c.loop-number.invariant.owners;
    }
