use Rattle.std.proofs.Common.{◌≡◌, ◌∙◌, sym, ap, ℕ, List, [], ◌∷◌, ◌++◌, length, map, Some, Bor}
use Rattle.std.proofs.lemmas.List.{length-map}
use Rattle.il_ast.specs.Prelude.{list_cells, object_cells, word_cells}
use Rattle.il_ast.specs.declared.datum.DataDef.{DataDef}
use Rattle.il_ast.specs.declared.program.InText.{InText}
use Rattle.obj_link.specs.Prelude.{shown, program}
use Rattle.il_interp.proofs.StartLemmas.{three_parts}
use Rattle.il_interp.proofs.start.start_memory.Goals as goal

pub returns : goal.returns
returns c =
    let words : List (List ℕ) = map (λ (w : Bor (List ℕ)). w.now) c.args.words.now in
    let objects : ℕ = length (map shown c.args.linked.now.objects) in
    let lists : c.in_ok-list.list ≡ list_cells objects (length words) =
    c.in_ok-list.ensures
    ∙ (ap (λ n. list_cells n (length c.args.words.now)) (c.len.ensures ∙ sym (length-map c.args.linked.now.objects shown))
    ∙ ap (list_cells objects) (sym (length-map c.args.words.now (λ (w : Bor (List ℕ)). w.now)))) in
    three_parts c.new-memory.result c.add_objects.new.memory c.add_words.new.memory c.add.new.memory
    (map (λ (d : InText DataDef). Some (object_cells (program c.args.linked.now) d)) (map shown c.args.linked.now.objects))
    (map (λ (w : List ℕ). Some (word_cells w)) words) (Some (list_cells objects (length words)) ∷ [])
    c.new-memory.ensures c.in_ok-add_objects.ensures c.in_ok-add_words.ensures
    (c.in_ok-add.ensures ∙ ap (λ x. c.add_words.new.memory ++ Some x ∷ []) lists)
