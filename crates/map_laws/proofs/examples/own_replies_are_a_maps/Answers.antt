use Rattle.map_laws.proofs.Words.{refl}
use Rattle.map_laws.proofs.examples.own_replies_are_a_maps.Goals as goal

pub returns-clause-own : goal.returns-clause-own
returns-clause-own c = (
  λ t. refl,
  (
    λ t. refl,
    (
      λ t. cc,
      (
        λ t. cc,
        (λ t. refl, (λ t. cc, (λ t. refl, (λ t. cc, (λ t. refl, (λ t. refl, (λ t. refl, (λ t. cc, (λ t. refl, (λ t. refl, (λ t. refl, (λ t. refl, tt)))))))))))),
      ),
    ),
  ),
)

pub returns-clause-before : goal.returns-clause-before
returns-clause-before c = λ are. let none = are.0 refl in cc

pub returns-clause-missed : goal.returns-clause-missed
returns-clause-missed c = λ are. let none = are.1.0 refl in cc

pub returns-clause-unwritten : goal.returns-clause-unwritten
returns-clause-unwritten c = λ are. let none = are.1.0 refl in cc
