pub mod ChildLaws
pub mod CutLaws
pub mod ItemLaws
pub mod KeyLaws
pub mod PageLaws
pub mod PlaceLaws
pub mod OrderLaws
