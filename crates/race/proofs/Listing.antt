-- Laws of lists by job number.
use Rattle.std.proofs.Common.{◌≡◌, ℕ, ◌<◌, List, [], ◌∷◌, ◌++◌, map, refl, sym, ap, ◌∙◌, arith, ◌==◌, true, inl, inr, slice_index_or, slice_set, replicate}
use Rattle.std.proofs.lemmas.List.{append-nil, map-append, length-set, get_or-set_same, get_or-set_other, get_or-replicate, length-replicate}
use Rattle.std.proofs.lemmas.Bool.{ne_eqb, cases_eq}
use Rattle.std.proofs.lemmas.List.Elements.{filter-append}
use Rattle.std.specs.List.{filter}
use Rattle.bw_model.specs.declared.command.Command.{Command}
use Rattle.shell_lines.specs.declared.race_line.JobCommand.{JobCommand}
use Rattle.race.specs.Jobs.{commands_of}
use Rattle.race.specs.Lists.{AreListsOf}

-- one command more
more_of : (number : ℕ) (asked : List JobCommand) (asks : JobCommand)
    → commands_of number (asked ++ asks ∷ []) ≡ commands_of number asked ++ commands_of number (asks ∷ [])
more_of number asked asks =
    ap (map (λ (a : JobCommand). a.command)) (filter-append (λ (a : JobCommand). a.job == number) asked (asks ∷ []))
    ∙ map-append (λ (a : JobCommand). a.command) (filter (λ (a : JobCommand). a.job == number) asked) (filter (λ (a : JobCommand). a.job == number) (asks ∷ []))

one_of : (number : ℕ) (asks : JobCommand) → asks.job ≡ number → commands_of number (asks ∷ []) ≡ asks.command ∷ []
one_of number asks same = let e : (asks.job == number) ≡ true = grind (arith, same) in rw e refl

none_of : (number : ℕ) (asks : JobCommand) → (asks.job ≡ number → ⊥) → commands_of number (asks ∷ []) ≡ []
none_of number asks other = rw (ne_eqb asks.job number other) refl

pub one_listed : (asked : List JobCommand) (lists : List (List Command)) (asks : JobCommand) (own : List Command) → AreListsOf asked lists → asks.job < 4096
    → own ≡ slice_index_or lists asks.job [] ++ asks.command ∷ [] → AreListsOf (asked ++ asks ∷ []) (slice_set lists asks.job own)
one_listed asked lists asks own l low is = record {
  count = length-set lists asks.job own ∙ l.count;
  each = λ number inside. elim (cases_eq asks.job number) [
    | inl same ↦
        ap (λ (n : ℕ). slice_index_or (slice_set lists asks.job own) n []) (sym same)
        ∙ get_or-set_same lists asks.job own [] (omega (arith, low, l.count)) ∙ is ∙ ap (λ (x : List Command). x ++ asks.command ∷ []) (l.each asks.job low)
        ∙ ap (λ (n : ℕ). commands_of n asked ++ asks.command ∷ []) same
        ∙ sym (more_of number asked asks ∙ ap (λ (x : List Command). commands_of number asked ++ x) (one_of number asks same))
    | inr other ↦
        get_or-set_other lists asks.job number own [] (λ e. other (sym e)) ∙ l.each number inside
        ∙ sym (more_of number asked asks ∙ ap (λ (x : List Command). commands_of number asked ++ x) (none_of number asks other) ∙ append-nil (commands_of number asked))
  ];
}

pub none_listed : AreListsOf [] (replicate 4096 [])
none_listed = record { count = length-replicate {A = List Command} 4096 []; each = λ number inside. get_or-replicate 4096 number [] [] inside }
