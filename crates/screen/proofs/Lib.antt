pub mod ScreenLaws
pub mod PictureLaws
pub mod PixelLaws
