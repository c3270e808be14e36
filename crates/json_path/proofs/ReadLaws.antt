-- One turn of the reading of a path.
use Rattle.std.proofs.Common.{◌≡◌, ℕ, ◌+◌, ◌<◌, ◌≤◌, true, false, List, length, drop, get_or, Option, Some, None, Result, Ok, Err, MatchResult, refl, ap, sym, ◌∙◌, subst}
use Rattle.std.proofs.lemmas.List.{drop_more, drop_all}
use Rattle.json_path.specs.declared.path.Step.{Step}
use Rattle.json_path.specs.declared.path.PathError.{PathError}
use Rattle.json_path.specs.declared.path.PathError.TheVariants.{BadPath}
use Rattle.json_path.specs.declared.parse.Parser.{Parser}
use Rattle.json_path.specs.PathGrammar.{IsPathOf, IsFaultOf}
use Rattle.json_path.specs.PathMachine.{State, start, next, run, finish, or_else_fault, path_of}
use Rattle.json_path.specs.PathHolding.{Holds, Takes}
use Rattle.json_path.specs.PathGives.{Gives}
use Rattle.json_path.proofs.Reading.{run-next, run-stuck, run-none}
use Rattle.json_path.proofs.Soundness.{path_is_right, one_path}

-- the bytes from a place on, after this state, lead where all bytes lead
abbrev pub Reads_on : Parser → ℕ → List ℕ → Type 0
Reads_on parser at text = (s : State) × Holds parser s × (run at (drop at text) s ≡ run 0 text start)

pub byte_turn : (old new : Parser) (at : ℕ) (text : List ℕ) → at < length text → ((s : State) → Holds old s → Takes true (next (get_or text at 0) s) new) → Reads_on old at text → Reads_on new (at + 1) text
byte_turn old new at text within takes h = go (next (get_or text at 0) h.0) refl (takes h.0 h.1)
  where
    go : (o : Option State) → next (get_or text at 0) h.0 ≡ o → Takes true o new → Reads_on new (at + 1) text
    go None e taken = absurd taken
    go (Some s) e taken =
        (s, taken, sym (run-next at (get_or text at 0) (drop (at + 1) text) h.0 s e) ∙ ap (λ bs. run at bs h.0) (sym (drop_more text at 0 within)) ∙ h.2)

pub byte_stop : (old new : Parser) (at : ℕ) (text : List ℕ) → at < length text → ((s : State) → Holds old s → Takes false (next (get_or text at 0) s) new) → Reads_on old at text → path_of text ≡ Err at
byte_stop old new at text within takes h = go (next (get_or text at 0) h.0) refl (takes h.0 h.1)
  where
    go : (o : Option State) → next (get_or text at 0) h.0 ≡ o → Takes false o new → path_of text ≡ Err at
    go None e taken =
        ap (λ o. or_else_fault o (finish (length text)))
        (sym h.2 ∙ ap (λ bs. run at bs h.0) (drop_more text at 0 within) ∙ run-stuck at (get_or text at 0) (drop (at + 1) text) h.0 e)
    go (Some s) e taken = absurd taken

pub end_turn : (parser : Parser) (at : ℕ) (text : List ℕ) (r : Result (List Step) PathError) → length text ≤ at → ((s : State) → Holds parser s → Gives r (finish (length text) s)) → Reads_on parser at text → Gives r (path_of text)
end_turn parser at text r past gives h =
    let ran : run 0 text start ≡ Ok h.0 = sym h.2 ∙ ap (λ bs. run at bs h.0) (drop_all at text past) ∙ run-none at h.0 in
    subst (Gives r) (sym (ap (λ o. or_else_fault o (finish (length text))) ran)) (gives h.0 h.1)

-- what a call says of its text, where it gives the steps or the place of the fault
pub gives_steps : (text : List ℕ) (ss : List Step) → path_of text ≡ Ok ss → IsPathOf text ss
gives_steps text ss g = subst (λ o. MatchResult o (IsPathOf text) (IsFaultOf text)) g (path_is_right text)

pub gives_only : (text : List ℕ) (ss : List Step) → path_of text ≡ Ok ss → (others : List Step) → IsPathOf text others → others ≡ ss
gives_only text ss g others is = same (sym (one_path text others is) ∙ g)
  where
    same : ◌≡◌ {A = Result (List Step) ℕ} (Ok others) (Ok ss) → others ≡ ss
    same e = cc

gives_fault : (text : List ℕ) (e : PathError) (at : ℕ) → Gives {A = List Step} (Err e) (path_of text) → e ≡ BadPath at → path_of text ≡ Err at
gives_fault text e at g is = subst (λ x. Gives {A = List Step} (Err x) (path_of text)) is g

pub gives_refused : (text : List ℕ) (e : PathError) (at : ℕ) → Gives {A = List Step} (Err e) (path_of text) → e ≡ BadPath at → (ss : List Step) → IsPathOf text ss → ⊥
gives_refused text e at g is ss path = apart (sym (gives_fault text e at g is) ∙ one_path text ss path)
  where
    apart : ◌≡◌ {A = Result (List Step) ℕ} (Err at) (Ok ss) → ⊥
    apart h = cc

pub gives_place : (text : List ℕ) (e : PathError) (at : ℕ) → Gives {A = List Step} (Err e) (path_of text) → e ≡ BadPath at → IsFaultOf text at
gives_place text e at g is = subst (λ o. MatchResult o (IsPathOf text) (IsFaultOf text)) (gives_fault text e at g is) (path_is_right text)

pub same_error : (e : PathError) (at : ℕ) → ◌≡◌ {A = Result (List Step) PathError} (Err e) (Err (BadPath at)) → e ≡ BadPath at
same_error e at h = cc
