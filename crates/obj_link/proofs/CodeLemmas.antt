-- The words of functions, one further.
use Rattle.std.proofs.Common.{◌≡◌, ℕ, ◌+◌, ◌*◌, ◌<◌, ◌&&◌, List, ◌∷◌, ◌++◌, length, drop, map, get_or, ◌∙◌, ap, Bor}
use Rattle.std.proofs.lemmas.List.{drop_more}
use Rattle.il_ast.specs.declared.function.Func.{Func}
use Rattle.il_ast.specs.declared.program.InText.{InText}
use Rattle.il_ast.specs.declared.program.Target.{Target}
use Rattle.rv_isa.specs.Prelude.{Words, filled, all_reach}
use Rattle.obj_link.specs.declared.placing.addresses.Addresses.{Addresses}
use Rattle.obj_link.specs.Prelude.{shown, functions_end, functions_words, functions_reach, name_address}

pub functions_further : (a : Addresses) (targets : List (List Target)) (at : ℕ) (codes : List Words) (fs : List (InText (Bor Func))) (i : ℕ) (c : Words)
    (f : InText (Bor Func)) → i < length codes → i < length fs
    → functions_words a targets at (drop i codes) (map shown (drop i fs))
    ≡ filled at (name_address a targets (get_or fs i f).text) (get_or codes i c).words (get_or codes i c).holes
    ++ functions_words a targets (at + 4 * length (get_or codes i c).words) (drop (i + 1) codes) (map shown (drop (i + 1) fs))
functions_further a targets at codes fs i c f lt le =
    ap (λ cs. functions_words a targets at cs (map shown (drop i fs))) (drop_more codes i c lt)
    ∙ ap (λ (xs : List (InText (Bor Func))). functions_words a targets at (get_or codes i c ∷ drop (i + 1) codes) (map shown xs)) (drop_more fs i f le)

pub reach_further : (a : Addresses) (targets : List (List Target)) (at : ℕ) (codes : List Words) (fs : List (InText (Bor Func))) (i : ℕ) (c : Words)
    (f : InText (Bor Func)) → i < length codes → i < length fs
    → functions_reach a targets at (drop i codes) (map shown (drop i fs))
    ≡ (all_reach at (name_address a targets (get_or fs i f).text) (get_or codes i c).holes
    && functions_reach a targets (at + 4 * length (get_or codes i c).words) (drop (i + 1) codes) (map shown (drop (i + 1) fs)))
reach_further a targets at codes fs i c f lt le =
    ap (λ cs. functions_reach a targets at cs (map shown (drop i fs))) (drop_more codes i c lt)
    ∙ ap (λ (xs : List (InText (Bor Func))). functions_reach a targets at (get_or codes i c ∷ drop (i + 1) codes) (map shown xs)) (drop_more fs i f le)

pub end_further : (at : ℕ) (codes : List Words) (i : ℕ) (c : Words) → i < length codes
    → functions_end at (drop i codes) ≡ functions_end (at + 4 * length (get_or codes i c).words) (drop (i + 1) codes)
end_further at codes i c lt = ap (functions_end at) (drop_more codes i c lt)
