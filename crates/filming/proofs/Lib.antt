mod Filming
mod PageLaws
mod PlaceLaws
mod Placing
